-- What a call answers: a value, or a refusal (SPEC 1.2, 11.1; document 01: "A refusal is a number and a place (0 unless said)").
use Rattle.std.specs.Prelude.{ℕ}

pub data Answer (A : Type 0) : Type 0 where
  value : A → Answer A
  refusal : ℕ → ℕ → Answer A

abbrev pub on_answer : {A B : Type 0} → Answer A → (A → B) → (ℕ → ℕ → B) → B
on_answer (value a) f g = f a
on_answer (refusal number place) f g = g number place
