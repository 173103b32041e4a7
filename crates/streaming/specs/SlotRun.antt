-- The run over many letters on a window whose classes lie in slots.
use Rattle.std.specs.Prelude.{Bool}
use Rattle.base.specs.Choice.{pick}
use Rattle.letters.specs.declared.Letter.{Letter}
use Rattle.window.specs.Layout.{registers, functions}
use Rattle.slots.specs.Slots.{Slots}
use Rattle.slots.specs.Performing.{perform_slots}

-- the slots after a letter, which is performed only if it is fine
unfoldable pub slots_performed : Slots → Bool → Letter → Slots
slots_performed s fine letter = pick fine (λ _. perform_slots registers functions s letter) λ _. s
