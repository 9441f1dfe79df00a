use Rattle.std.proofs.Common.{◌≡◌, ℕ, ◌-◌, ◌*◌, ◌<◌, ◌≤◌, true, false, cond, List, [], ◌∷◌, ◌++◌, Some, None, map, length, drop, replicate, refl, sym, ap, arith}
use Rattle.std.specs.List.{flat_map, list_all}
use Rattle.std.proofs.lemmas.List.{length-append, length-map, length-replicate}
use Rattle.std.proofs.lemmas.Bool.{and_from, and_parts}
use Rattle.std.proofs.lemmas.Bool.Decides.{nat_tests}
use Rattle.records.specs.Records.{fits_at}
use Rattle.records.specs.Results.{front_size, with_front}
use Rattle.keys.specs.declared.key.Key.{Key}
use Rattle.keys.proofs.Trips.{length-key_bytes}
use Rattle.lists.specs.Few.{few_items}
use Rattle.lists.proofs.Cuts.{length-few_items}
use Rattle.actions.specs.Words.{is_argument, argument_body}
use Rattle.actions.specs.Actions.{Act, action_text, action_size, argument_record, input_record, argument_size, input_size, longest_text}
use Rattle.actions.specs.Views.{argument_bytes, act_of}
use Rattle.actions.specs.declared.argument.Argument.{Argument}
use Rattle.actions.specs.declared.action.Action.{Action}
use Rattle.actions.proofs.Tests.{argument_parts}

pub length-argument_body : (w : List ℕ) → length w ≤ 16 → length (argument_body w) ≡ 17
length-argument_body w short =
    let a = length-append w (replicate (16 - length w) 0) in
    let r = length-replicate {A = ℕ} (16 - length w) 0 in
    omega arith

-- the records of arguments, and those of inputs, one size to each
pub length_arguments : (ws : List (List ℕ)) → list_all is_argument ws ≡ true → length (flat_map argument_record ws) ≡ length ws * argument_size
length_arguments [] t = refl
length_arguments (w ∷ ws) t =
    let p = and_parts (is_argument w) (list_all is_argument ws) t in
    let q = argument_parts w p.0 in
    let b = length-argument_body w q.1 in
    let a = length-append (argument_record w) (flat_map argument_record ws) in
    let r = length_arguments ws p.1 in
    omega arith

pub length_inputs : (ks : List Key) → length (flat_map input_record ks) ≡ length ks * input_size
length_inputs [] = refl
length_inputs (k ∷ ks) =
    let b = length-key_bytes k in
    let a = length-append (input_record k) (flat_map input_record ks) in
    let r = length_inputs ks in
    omega arith

pub length_text : (a : Act) → list_all is_argument a.arguments ≡ true → length (action_text a) ≡ action_size (length a.arguments) (length a.inputs)
length_text a t =
    let p = length_arguments a.arguments t in
    let q = length_inputs a.inputs in
    let r = length-append (flat_map argument_record a.arguments) (flat_map input_record a.inputs ++ 0 ∷ []) in
    let s = length-append (flat_map input_record a.inputs) (0 ∷ []) in
    omega arith

-- every argument of the code is one
pub each_argument : (ws : List Argument) → list_all is_argument (map argument_bytes ws) ≡ true
each_argument [] = refl
each_argument (w ∷ ws) = and_from _ _ w.good (each_argument ws)

-- the size of the text of an action
pub size_of_action : (a : Action) → length (action_text (act_of a)) ≡ action_size (length (act_of a).arguments) (length (act_of a).inputs)
size_of_action a = length_text (act_of a) (each_argument (few_items a.arguments))

-- there is room for the text of every action
pub length_of_action : (a : Action) → length (action_text (act_of a)) ≤ longest_text
length_of_action a =
    let l = size_of_action a in
    let k = length-map (few_items a.arguments) argument_bytes in
    let m = length-few_items a.arguments in
    let n = length-few_items a.inputs in
    omega arith

-- where a text does not fit, nothing is written
pub too_small : (bytes buffer : List ℕ) → length buffer < length bytes → (None ≡ front_size bytes buffer) × (buffer ≡ with_front bytes buffer)
too_small bytes buffer h =
    let t : fits_at (length bytes) 0 buffer ≡ false = grind (arith, nat_tests) in
    (sym (ap (λ b. cond b (Some (length bytes)) None) t), sym (ap (λ b. cond b (bytes ++ drop (length bytes) buffer) buffer) t))
