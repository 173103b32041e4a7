use Rattle.display_lines.proofs.Theory.Forms.{fields_made}
use Rattle.display_lines.proofs.state_fields.Goals as goal

pub returns : goal.returns
returns c =
    fields_made _ _ c.class_count-count.ensures.value c.class_count-count.type_inv c.unequal_word-pairs.ensures.value c.digit_name.ensures
    c.digit_name-2.ensures
