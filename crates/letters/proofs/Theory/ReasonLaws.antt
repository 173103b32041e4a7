-- Each number from 1 to 16 stands for one reason.
use mathlib.Core.Path.{◌≡◌, refl, sym, ap, ◌∙◌}
use Prim.Native.Nat.{ℕ, ◌+◌, ◌-◌, ◌≤◌}
use native.Mathlib.Omega.{arith}
use mathlib.Core.List.{map}
use lib.ListN.{get_or, get_or-map}
use Rattle.std.specs.List.{range_with_len}
use Rattle.std.proofs.lemmas.List.FromFn.{get_or-range_with_len}
use Rattle.letters.specs.declared.reasons.Reason.TheVariants.{NoRoomForTests}
use Rattle.letters.specs.Reasons.{number_of, reason_of, reasons}

in_order : map number_of reasons ≡ range_with_len 1 16
in_order = refl

pub number_of-reason_of : (n : ℕ) → 1 ≤ n → n ≤ 16 → number_of (reason_of n) ≡ n
number_of-reason_of n some most =
    let e : number_of (reason_of n) ≡ get_or (map number_of reasons) (n - 1) 16 = sym (get_or-map number_of reasons (n - 1) NoRoomForTests) in
    let f : get_or (map number_of reasons) (n - 1) 16 ≡ 1 + (n - 1) =
    ap (λ l. get_or l (n - 1) 16) in_order ∙ get_or-range_with_len 1 16 (n - 1) 16 (omega arith) in
    omega (arith, e, f)
