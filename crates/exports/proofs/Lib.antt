pub mod Theory
-- What the proofs of several functions use.
mod Laws
mod CallLaws
mod LayoutLaws
