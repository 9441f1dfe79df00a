use Rattle.std.specs.Prelude.{◌≡◌, ℕ, zero, suc, ◌+◌, ◌*◌, ◌≤◌, Bool, true, cond, ◌&&◌, List, [], ◌∷◌, ◌++◌, length, Some, None, Option, nat_le}
use Rattle.std.specs.List.{flat_map}
use Rattle.std.specs.Option.{option_map}
use Rattle.std.specs.Int.Digits.{AllBelowBase}
use Rattle.keys.specs.Keys.{key_bytes, read_key}
use Rattle.keys.specs.declared.key.Key.{Key}
use Rattle.records.specs.declared.kind.Kind.{Kind}
use Rattle.records.specs.declared.kind.Kind.TheVariants.{End, Operation, Argument, Input}
use Rattle.records.specs.Records.{Split, record_bytes, record_size, split_record, and_then, alone}
use Rattle.std.specs.List.{list_all}
use Rattle.actions.specs.Words.{is_letter, is_argument, argument_body, read_argument_body}

-- what a step does, and to which inputs: an operation, its arguments, the keys of its inputs in order
pub record Act : Type 0 where
  pub letter : ℕ
  pub arguments : List (List ℕ)
  pub inputs : List Key

-- the most arguments and the most inputs
abbrev pub argument_most : ℕ
argument_most = 2

abbrev pub input_most : ℕ
input_most = 4

-- an action: a letter A to Z, up to 2 arguments, 1 to 4 inputs
abbrev pub is_action : Act → Bool
is_action a =
    is_letter a.letter && ((nat_le (length a.arguments) argument_most && list_all is_argument a.arguments)
    && (nat_le 1 (length a.inputs) && nat_le (length a.inputs) input_most))

-- the action of these parts, where they make one
abbrev pub make_action : ℕ → List (List ℕ) → List Key → Option Act
make_action l ws ks =
    cond (is_action (record { letter = l; arguments = ws; inputs = ks })) (Some (record { letter = l; arguments = ws; inputs = ks })) None

abbrev pub operation_record : ℕ → List ℕ
operation_record l = record_bytes Operation (l ∷ [])

abbrev pub argument_record : List ℕ → List ℕ
argument_record w = record_bytes Argument (argument_body w)

abbrev pub input_record : Key → List ℕ
input_record k = record_bytes Input (key_bytes k)

-- an action text: the operation, the arguments, the inputs, the end
abbrev pub action_text : Act → List ℕ
action_text a =
    operation_record a.letter ++ (flat_map argument_record a.arguments ++ (flat_map input_record a.inputs ++ record_bytes End []))

-- the size of an argument's record, and of an input's
abbrev pub argument_size : ℕ
argument_size = record_size Argument

abbrev pub input_size : ℕ
input_size = record_size Input

-- the size of an action text with so many arguments and inputs
abbrev pub action_size : ℕ → ℕ → ℕ
action_size m n = record_size Operation + (m * argument_size + (n * input_size + record_size End))

-- the size of the longest action text
abbrev pub longest_text : ℕ
longest_text = action_size argument_most input_most

-- what the record of a kind at the front of bytes holds, its body read by a reader, and the bytes behind it
abbrev pub read_record : {X : Type 0} → Kind → (List ℕ → Option X) → List ℕ → Option (Split X)
read_record kind body bs =
    and_then (split_record kind bs) (λ s. option_map (λ x. record { part = x; rest = s.rest }) (body s.part))

-- one element in front of those that were read
abbrev pub before : {X : Type 0} → X → Split (List X) → Split (List X)
before x s = record { part = x ∷ s.part; rest = s.rest }

-- elements in front of those that were read
abbrev pub all_before : {X : Type 0} → List X → Split (List X) → Split (List X)
all_before xs s = record { part = xs ++ s.part; rest = s.rest }

-- nothing was read, or something, and what follows from it
abbrev pub or_none : {X : Type 0} → List ℕ → Option (Split X) → (Split X → Split (List X)) → Split (List X)
or_none bs None more = record { part = []; rest = bs }
or_none bs (Some s) more = more s

-- at most n elements at the front of bytes, as far as each is read, and the bytes behind them
abbrev pub several : {X : Type 0} → (List ℕ → Option (Split X)) → ℕ → List ℕ → Split (List X)
several item zero bs = record { part = []; rest = bs }
several item (suc n) bs = or_none bs (item bs) (λ s. before s.part (several item n s.rest))

-- the first byte of an operation's body
abbrev pub read_letter : List ℕ → Option ℕ
read_letter [] = None
read_letter (l ∷ body) = Some l

abbrev pub read_argument : List ℕ → Option (Split (List ℕ))
read_argument bs = read_record Argument read_argument_body bs

abbrev pub read_input : List ℕ → Option (Split Key)
read_input bs = read_record Input read_key bs

-- the action of a letter and the parts behind it, where nothing but an end record follows them
abbrev pub read_inputs : ℕ → List (List ℕ) → Split (List Key) → Option Act
read_inputs l ws ks = and_then (and_then (split_record End ks.rest) alone) (λ _. make_action l ws ks.part)

abbrev pub read_arguments : ℕ → Split (List (List ℕ)) → Option Act
read_arguments l ws = read_inputs l ws.part (several read_input input_most ws.rest)

-- the action that bytes are the text of
abbrev pub read_action : List ℕ → Option Act
read_action bs =
    and_then (read_record Operation read_letter bs) (λ o. read_arguments o.part (several read_argument argument_most o.rest))

-- an action reads back from its text; bytes that read as an action are its text; different actions have different texts
abbrev pub ActionsRoundTrip : Type 0
ActionsRoundTrip =
    ((a : Act) → is_action a ≡ true → read_action (action_text a) ≡ Some a)
    × ((bs : List ℕ) (a : Act) → AllBelowBase 256 bs → read_action bs ≡ Some a → (bs ≡ action_text a) × (is_action a ≡ true))
    × ((a b : Act) → is_action a ≡ true → is_action b ≡ true → action_text a ≡ action_text b → a ≡ b)
    × ((a : Act) → is_action a ≡ true → (length (action_text a) ≡ action_size (length a.arguments) (length a.inputs)) × (length (action_text a) ≤ longest_text))
