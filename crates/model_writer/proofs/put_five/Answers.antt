use Rattle.std.proofs.Common.{ℕ, List, take, drop, ap, ◌∙◌, arith}
use Rattle.model_writer.proofs.Theory.Bytes.{five_put}
use Rattle.model_writer.proofs.put_five.Goals as goal

pub returns : goal.returns
returns c = five_put _ _ _ _ _ c.requires (omega arith) (c.copy_from_slice.ensures.after ∙ ap (λ (l : List ℕ). take 5 (drop 3 l)) c.to_be_bytes-bytes.ensures)
