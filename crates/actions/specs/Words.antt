use Rattle.std.specs.Prelude.{ℕ, ◌-◌, Bool, cond, ◌&&◌, List, [], ◌∷◌, ◌++◌, length, take, drop, replicate, Some, None, Option, nat_le}
use Rattle.std.specs.List.{list_all}
use Rattle.lists.specs.Each.{all_zero}
use Rattle.records.specs.Records.{argument_room}

-- a byte that an argument may have: no space, no control, nothing beyond ASCII
abbrev pub argument_byte : ℕ → Bool
argument_byte b = nat_le 33 b && nat_le b 126

-- an argument: 1 to 16 such bytes
abbrev pub is_argument : List ℕ → Bool
is_argument w = nat_le 1 (length w) && (nat_le (length w) argument_room && list_all argument_byte w)

-- the body of an argument record: the length, the bytes, zeros up to the room
abbrev pub argument_body : List ℕ → List ℕ
argument_body w = length w ∷ w ++ replicate (argument_room - length w) 0

-- the argument in the body of an argument record
abbrev pub read_argument_body : List ℕ → Option (List ℕ)
read_argument_body [] = None
read_argument_body (n ∷ bs) =
    cond (nat_le n (length bs) && (is_argument (take n bs) && all_zero (drop n bs))) (Some (take n bs)) None

-- the letter of an operation: A to Z
abbrev pub is_letter : ℕ → Bool
is_letter l = nat_le 65 l && nat_le l 90
