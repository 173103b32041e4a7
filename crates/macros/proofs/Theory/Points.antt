-- What follows from the definitions of specs/Points.antt.
use mathlib.Core.Path.{◌≡◌, refl, ap}
use mathlib.Core.List.{List, [], ◌∷◌, ◌++◌}
use Prim.Native.Nat.{ℕ, zero, suc, ◌+◌, ◌≤◌}
use native.Mathlib.Omega.{arith}
use lib.Dec.{eqb}
use lib.ListN.{length, length-append}
use borrow.Author.Tests.{ne_eqb}
use Rattle.base.specs.Choice.{pick}
use Rattle.macros.specs.Order.{Branch}
use Rattle.macros.specs.Walk.{Move, no_move}
use Rattle.macros.specs.Tree.{Statement, skip, perform, assert, if, while, while_after, Else, absent, present, Block, empty, ◌then◌}
use Rattle.macros.specs.Points.{Point, step, check, fork, size_statement, size_else, size_block, entry, compile, compile_else, compile_block, points, moves}
use Rattle.macros.specs.Points.{moves_at}

-- ── laws ──
-- the entry as a choice by the count
pub entry_is : (n b follow : ℕ) → entry n b follow ≡ pick (eqb n 0) (λ _. follow) λ _. b
unfolding entry
entry_is zero b follow = refl
entry_is (suc n) b follow = rw (ne_eqb (suc n) 0 λ e. omega arith) refl

-- of two parts, one after the other
pub entry_then : (m n b follow : ℕ) → entry (m + n) b follow ≡ entry m b (entry n (b + m) follow)
unfolding entry
entry_then zero n b follow =
    let e : 0 + n ≡ n = omega arith in
    let f : b ≡ b + 0 = omega arith in
    λ i. entry (e i) (f i) follow
entry_then (suc m) n b follow =
    let e : suc m + n ≡ suc (m + n) = omega arith in
    ap (λ k. entry k b follow) e

-- there are as many points as counted
mutual
  unfolding size_statement compile

  pub compile_length : (s : Statement) (b follow : ℕ) → length (compile s b follow) ≡ size_statement s
  compile_length skip b follow = refl
  compile_length (perform a) b follow = refl
  compile_length (assert c) b follow = refl
  compile_length (if c t e) b follow =
      let i = compile_block_length t (b + 1) follow in
      let j = compile_else_length e (b + 1 + size_block t) follow in
      simp (length-append) (omega arith)
  compile_length (while c t) b follow = ap suc (compile_block_length t (b + 1) _)
  compile_length (while_after a c t) b follow = ap (λ n. suc (suc n)) (compile_block_length t (b + 2) _)

  pub compile_else_length : (e : Else) (b follow : ℕ) → length (compile_else e b follow) ≡ size_else e
  compile_else_length absent b follow = refl
  compile_else_length (present t) b follow = compile_block_length t b follow

  pub compile_block_length : (t : Block) (b follow : ℕ) → length (compile_block t b follow) ≡ size_block t
  compile_block_length empty b follow = refl
  compile_block_length (s then t) b follow =
      let i = compile_length s b (entry (size_block t) (b + size_statement s) follow) in
      let j = compile_block_length t (b + size_statement s) follow in
      simp (length-append) (omega arith)

-- P holds of every point.
abbrev pub Every : (Point → Type 0) → List Point → Type 0
Every P [] = Unit {0}
Every P (x ∷ l) = P x × Every P l

pub every_append : (P : Point → Type 0) (l k : List Point) → Every P l → Every P k → Every P (l ++ k)
every_append P [] k u v = v
every_append P (x ∷ l) k u v = (u.0, every_append P l k u.1 v)

-- what holds of the branches of every point
pub every_moves : (P : Point → Type 0) (Q : Move ℕ → Type 0) → Q no_move → ((x : Point) (d : Branch) → P x → Q (moves x d))
    → (l : List Point) (n : ℕ) (d : Branch) → Every P l
    → Q (moves_at l n d)
every_moves P Q start each [] n d u = start
every_moves P Q start each (x ∷ l) zero d u = each x d u.0
every_moves P Q start each (x ∷ l) (suc n) d u = every_moves P Q start each l n d u.1

-- ── no point leads past the end ──
-- Each point that follows is at most n.
abbrev pub LeadsWithin : ℕ → Point → Type 0
LeadsWithin n (step a i) = i ≤ n
LeadsWithin n (check c i) = i ≤ n
LeadsWithin n (fork c i j) = (i ≤ n) × (j ≤ n)

pub entry_within : (k b follow n : ℕ) → b ≤ n → follow ≤ n → entry k b follow ≤ n
unfolding entry
entry_within zero b follow n u v = v
entry_within (suc k) b follow n u v = u

mutual
  unfolding size_statement compile

  leads : (s : Statement) (b follow n : ℕ) → b + size_statement s ≤ n → follow ≤ n → Every (LeadsWithin n) (compile s b follow)
  leads skip b follow n u v = tt
  leads (perform a) b follow n u v = (v, tt)
  leads (assert c) b follow n u v = (v, tt)
  leads (if c t e) b follow n u v = (
    (entry_within (size_block t) (b + 1) follow n (omega arith) v, entry_within (size_else e) (b + 1 + size_block t) follow n (omega arith) v),
    every_append (LeadsWithin n) (compile_block t (b + 1) follow) (compile_else e (b + 1 + size_block t) follow)
        (leads_block t (b + 1) follow n (omega arith) v) (leads_else e (b + 1 + size_block t) follow n (omega arith) v),
  )
  leads (while c t) b follow n u v =
      ((entry_within (size_block t) (b + 1) b n (omega arith) (omega arith), v), leads_block t (b + 1) b n (omega arith) (omega arith))
  leads (while_after a c t) b follow n u v =
      (omega arith, ((entry_within (size_block t) (b + 2) _ n (omega arith) (omega arith), v), leads_block t (b + 2) _ n (omega arith) (omega arith)))

  leads_else : (e : Else) (b follow n : ℕ) → b + size_else e ≤ n → follow ≤ n → Every (LeadsWithin n) (compile_else e b follow)
  leads_else absent b follow n u v = tt
  leads_else (present t) b follow n u v = leads_block t b follow n u v

  leads_block : (t : Block) (b follow n : ℕ) → b + size_block t ≤ n → follow ≤ n → Every (LeadsWithin n) (compile_block t b follow)
  leads_block empty b follow n u v = tt
  leads_block (s then t) b follow n u v =
      every_append (LeadsWithin n) (compile s b (entry (size_block t) (b + size_statement s) follow)) (compile_block t (b + size_statement s) follow)
      (leads s b (entry (size_block t) (b + size_statement s) follow) n (omega arith) (entry_within (size_block t) (b + size_statement s) follow n (omega arith) v))
      (leads_block t (b + size_statement s) follow n (omega arith) v)

pub points_lead : (m : Block) → Every (LeadsWithin (size_block m)) (points m)
points_lead m = leads_block m 0 (size_block m) (size_block m) (omega arith) (omega arith)
