-- Monitors and streams as bytes: what a caller in C or Rust keeps between calls. One byte an entry, a number of 64 bits in eight bytes, the most significant
-- first. Any bytes that are enough are read as some monitor and as some stream.
use Rattle.std.specs.Prelude.{◌≡◌, ℕ, ◌+◌, List, [], ◌∷◌, ◌++◌, map, eqb, length, get_or, take, drop}
use Rattle.base.specs.Choice.{pick}
use Rattle.letters.specs.Packing.{join, split}
use Rattle.records.specs.Records.{flag, is_set}
use Rattle.window.specs.Layout as layout
use Rattle.window.specs.declared.Window.{Window}
use Rattle.streaming.specs.Run.{run_with}
use Rattle.streaming.specs.Stream.{stream_with}
use Rattle.streaming.specs.declared.Monitor.{Monitor}
use Rattle.streaming.specs.declared.Phase.{Phase}
use Rattle.streaming.specs.declared.Phase.TheVariants.{Empty, One, Even, Odd}
use Rattle.streaming.specs.declared.Stream.{Stream}
use Rattle.streaming.specs.declared.RunAnswer.{RunAnswer}
use Rattle.streaming.specs.declared.RunAnswer.TheVariants.{Judged, Refused}

abbrev pub eight_octets : List ℕ
eight_octets = 8 ∷ 8 ∷ 8 ∷ 8 ∷ 8 ∷ 8 ∷ 8 ∷ 8 ∷ []

-- ---- sizes and places, in bytes; each part stands behind the one before it

-- the head of a state; the tail of a stream, behind its monitor and before its numbers; a number
abbrev pub head_size : ℕ
head_size = 7

abbrev pub tail_size : ℕ
tail_size = 4

abbrev pub number_size : ℕ
number_size = 8

abbrev pub class_place : ℕ
class_place = head_size

abbrev pub unequal_place : ℕ
unequal_place = class_place + layout.registers

abbrev pub mark_place : ℕ
mark_place = unequal_place + layout.registers

abbrev pub ever_place : ℕ
ever_place = mark_place + layout.registers

abbrev pub result_place : ℕ
result_place = ever_place + layout.lines

-- how many bytes a monitor has
abbrev pub monitor_size : ℕ
monitor_size = result_place + layout.results

abbrev pub letters_place : ℕ
letters_place = monitor_size + tail_size

abbrev pub first_letter_place : ℕ
first_letter_place = letters_place + number_size

abbrev pub second_place : ℕ
second_place = first_letter_place + number_size

-- how many bytes a stream has
abbrev pub stream_size : ℕ
stream_size = second_place + number_size

-- ---- monitors

-- the first bytes: what the state is, the header, whether the monitor runs, its infeasible mark, its number of classes
abbrev pub head_of : ℕ → Monitor → List ℕ
head_of kind m = kind ∷ m.header.registers ∷ m.header.functions ∷ m.header.binary ∷ flag m.running ∷ flag m.window.infeasible
    ∷ m.window.classes ∷ []

-- six parts one after the other, and then rest
abbrev pub parts_then : List ℕ → List ℕ → List ℕ → List ℕ → List ℕ → List ℕ → List ℕ → List ℕ
parts_then head class unequal marks ever result rest = head ++ (class ++ (unequal ++ (marks ++ (ever ++ (result ++ rest)))))

-- the bytes of a monitor, and then rest
abbrev pub monitor_then : ℕ → Monitor → List ℕ → List ℕ
monitor_then kind m rest =
    parts_then (head_of kind m) m.window.class m.window.unequal (map flag m.window.mark) m.window.ever m.window.result rest

-- how many entries the window's arrays have
pub record Sizes (class unequal marks ever result : List ℕ) : Type 0 where
  pub classes : length class ≡ layout.registers
  pub unequals : length unequal ≡ layout.registers
  pub marked : length marks ≡ layout.registers
  pub evers : length ever ≡ layout.lines
  pub results : length result ≡ layout.results

abbrev pub WindowSizes : Window → Type 0
WindowSizes w = Sizes w.class w.unequal (map flag w.mark) w.ever w.result

unfoldable pub monitor_window_in : List ℕ → Window
monitor_window_in bytes = record {
  class = take layout.registers (drop class_place bytes);
  unequal = take layout.registers (drop unequal_place bytes);
  result = take layout.results (drop result_place bytes);
  ever = take layout.lines (drop ever_place bytes);
  mark = map is_set (take layout.registers (drop mark_place bytes));
  infeasible = is_set (get_or bytes 5 0);
  classes = get_or bytes 6 0;
}

unfoldable pub monitor_in : List ℕ → Monitor
monitor_in bytes = record {
  header = record { registers = get_or bytes 1 0; functions = get_or bytes 2 0; binary = get_or bytes 3 0 };
  window = monitor_window_in bytes;
  running = is_set (get_or bytes 4 0);
}

-- What storing a monitor leaves: every byte, and a monitor that is read again.
pub record KeepsMonitor (kind : ℕ) (m : Monitor) (entry exit : List ℕ) : Type 0 where
  pub bytes : exit ≡ monitor_then kind m (drop monitor_size entry)
  pub kept : get_or exit 0 0 ≡ kind
  pub back : monitor_in exit ≡ m
  pub sizes : WindowSizes m.window

-- ---- streams

abbrev pub phase_code : Phase → ℕ
phase_code Empty = 0
phase_code One = 1
phase_code Even = 2
phase_code Odd = 3

unfoldable pub phase_in : ℕ → Phase
phase_in code = pick (eqb code 0) (λ _. Empty) λ _. pick (eqb code 1) (λ _. One) λ _. pick (eqb code 2) (λ _. Even) λ _. Odd

abbrev pub run_answer_code : RunAnswer → ℕ
run_answer_code (Judged incoherent infeasible) = 0
run_answer_code (Refused number place) = 1

abbrev pub refusal_number : RunAnswer → ℕ
refusal_number (Judged incoherent infeasible) = 0
refusal_number (Refused number place) = number

abbrev pub first_number : RunAnswer → ℕ
first_number (Judged incoherent infeasible) = incoherent
first_number (Refused number place) = 0

abbrev pub second_number : RunAnswer → ℕ
second_number (Judged incoherent infeasible) = infeasible
second_number (Refused number place) = place

unfoldable pub run_answer_in : ℕ → ℕ → ℕ → ℕ → RunAnswer
run_answer_in code number first second = pick (eqb code 0) (λ _. Judged first second) λ _. Refused number second

-- the bytes behind the monitor's that are no numbers of letters
abbrev pub tail_of : Stream → List ℕ
tail_of s = phase_code s.phase ∷ s.high ∷ run_answer_code s.run.verdict ∷ refusal_number s.run.verdict ∷ []

-- four parts one after the other, and then rest
abbrev pub tail_then : List ℕ → List ℕ → List ℕ → List ℕ → List ℕ → List ℕ
tail_then tail letters first second rest = tail ++ (letters ++ (first ++ (second ++ rest)))

-- the bytes of a stream, and then rest
abbrev pub stream_then : ℕ → Stream → List ℕ → List ℕ
stream_then kind s rest =
    monitor_then kind s.run.monitor
    (tail_then (tail_of s) (split eight_octets s.run.letters) (split eight_octets (first_number s.run.verdict))
    (split eight_octets (second_number s.run.verdict)) rest)

abbrev pub number_at : ℕ → List ℕ → ℕ
number_at place bytes = join eight_octets (take number_size (drop place bytes))

unfoldable pub stream_in : List ℕ → Stream
stream_in bytes =
    stream_with (phase_in (get_or bytes monitor_size 0)) (get_or bytes (monitor_size + 1) 0)
    (run_with (monitor_in bytes) (number_at letters_place bytes)
    (run_answer_in (get_or bytes (monitor_size + 2) 0) (get_or bytes (monitor_size + 3) 0) (number_at first_letter_place bytes) (number_at second_place bytes)))

-- What storing a stream leaves: every byte, and a stream that is read again.
pub record KeepsStream (kind : ℕ) (s : Stream) (entry exit : List ℕ) : Type 0 where
  pub bytes : exit ≡ stream_then kind s (drop stream_size entry)
  pub kept : get_or exit 0 0 ≡ kind
  pub back : stream_in exit ≡ s
