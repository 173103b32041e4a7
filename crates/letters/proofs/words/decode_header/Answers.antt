-- The header that the word names is packed again, and the two words are compared.
use Rattle.letters.proofs.Laws.{reread_none, reread_same, reread_other}
use Rattle.letters.specs.Coding.{decode_header}
use Rattle.letters.specs.Encoding.{encode_header}
use mathlib.Core.Path.{sym}
use Rattle.letters.proofs.words.decode_header.Goals as goal

pub returns-in_err-encode_header : goal.returns-in_err-encode_header
unfolding encode_header decode_header
returns-in_err-encode_header c =
    rw (c.from_residual.ensures, ← c.named_header-header.ensures) (reread_none _ _ _ _ 3 (sym (c.in_err-encode_header.ensures)))

pub returns-then-branch-word : goal.returns-then-branch-word
unfolding encode_header decode_header
returns-then-branch-word c = rw (← c.named_header-header.ensures) (reread_same _ _ _ _ 3 _ (sym (c.in_ok-encode_header.ensures)) c.if-branch-word.true)

pub returns-else-branch-word : goal.returns-else-branch-word
unfolding encode_header decode_header
returns-else-branch-word c = rw (← c.named_header-header.ensures) (reread_other _ _ _ _ 3 _ (sym (c.in_ok-encode_header.ensures)) c.if-branch-word.false)
