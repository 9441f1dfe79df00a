use Rattle.std.specs.Prelude.{◌≡◌, ℕ, Bool, true, false, cond, ◌&&◌, List, Some, None, Ok, Err, Option, Result, nat_le}
use Rattle.std.specs.Result.{result_map_both}
use Rattle.keys.specs.Digests.{value_room}
use Rattle.lists.specs.Each.{zeros_to}
use Rattle.stores.specs.declared.mark.Mark.{Mark}
use Rattle.stores.specs.declared.answers.Cause.{Cause}
use Rattle.stores.specs.declared.answers.Cause.TheVariants.{Busy, Broken, Differs, NoRoom, Absent}
use Rattle.stores.specs.declared.answers.Fault.{Fault}
use Rattle.stores.specs.declared.answers.Answer.{Answer}
use Rattle.stores.specs.declared.answers.Declined.{Declined}
use Rattle.stores.specs.declared.answers.StoreError.{StoreError}
use Rattle.stores.specs.declared.answers.StoreError.TheVariants.{Failed, Refused}

-- the number of a mark
abbrev pub mark_number : Mark → ℕ
mark_number m = m.number

-- what a making answers: 0 made, 10 declined
abbrev pub making_answer : {X Y : Type 0} → Result X Y → ℕ
making_answer (Ok x) = 0
making_answer (Err y) = 10

-- a mark that a making may be given: 1 to 254
abbrev pub is_free_mark : ℕ → Bool
is_free_mark n = nat_le 1 n && nat_le n 254

-- a mark made of a number; declined for one that is not free, which comes back
abbrev pub MarkOf : ℕ → Result Mark (Declined ℕ) → Type 0
MarkOf n r =
    result_map_both mark_number (λ (d : Declined ℕ). d.given) r ≡ cond (is_free_mark n) (Ok n) (Err n)

-- the number of a cause
abbrev pub cause_number : Cause → ℕ
cause_number Busy = 1
cause_number Broken = 2
cause_number Differs = 3
cause_number NoRoom = 4
cause_number Absent = 5

-- a fault by its numbers: the mark of what raised it, and the cause
pub record Raised : Type 0 where
  pub mark : ℕ
  pub cause : ℕ

-- no fault: mark 0 and cause 0
abbrev pub no_fault : Raised
no_fault = record { mark = 0; cause = 0 }

-- a fault by its numbers
abbrev pub raised : Fault → Raised
raised f = record { mark = mark_number f.mark; cause = cause_number f.cause }

-- the first fault that an answer carries, by its numbers
abbrev pub carried : Option Fault → Raised
carried None = no_fault
carried (Some f) = raised f

-- what a find answers: 1 found, 2 missing, 3 a fault, 4 refused; the length of what was found, else 0; the first fault
pub record FindNumbers : Type 0 where
  pub answer : ℕ
  pub size : ℕ
  pub first : Raised

-- what a put answers: 1 kept, 3 a fault, 4 refused; the first fault
pub record PutNumbers : Type 0 where
  pub answer : ℕ
  pub first : Raised

-- a call that was refused carries nothing
abbrev pub find_refused : FindNumbers
find_refused = record { answer = 4; size = 0; first = no_fault }

abbrev pub put_refused : PutNumbers
put_refused = record { answer = 4; first = no_fault }

-- what a find that was done answers, by what it found
abbrev pub find_done : Option ℕ → Raised → FindNumbers
find_done (Some n) first = record { answer = 1; size = n; first = first }
find_done None first = record { answer = 2; size = 0; first = first }

-- what a find gives, by its numbers
abbrev pub find_numbers : Result (Answer (Option ℕ)) StoreError → FindNumbers
find_numbers (Ok a) = find_done a.value (carried a.first)
find_numbers (Err (Failed f)) = record { answer = 3; size = 0; first = raised f }
find_numbers (Err Refused) = find_refused

-- what a put gives, by its numbers
abbrev pub put_numbers : Result (Answer Unit) StoreError → PutNumbers
put_numbers (Ok a) = record { answer = 1; first = carried a.first }
put_numbers (Err (Failed f)) = record { answer = 3; first = raised f }
put_numbers (Err Refused) = put_refused

-- what a test before a call gives: it goes on, or the call is refused
abbrev pub refused_unless : Bool → Result Unit StoreError
refused_unless true = Ok tt
refused_unless false = Err Refused

-- a value and zeros behind it, as a buffer of a value's room holds them
unfoldable pub padded : List ℕ → List ℕ
padded v = zeros_to value_room v
