use Rattle.std.proofs.Common.{sym, ◌∙◌}
use Rattle.records.proofs.Theory.Digits.{units_one}
use Rattle.records.proofs.Theory.FormatLaws.{all_of}
use Rattle.records.proofs.mask_bytes.Goals as goal

pub returns : goal.returns
returns c = c.copy_from_slice.ensures.after ∙ sym (units_one c.args.masks.now (all_of 256 c.args.masks.now (λ k h. c.fits-masks k)))
