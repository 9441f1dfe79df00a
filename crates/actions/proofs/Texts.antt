use Rattle.std.proofs.Common.{◌≡◌, ℕ, List, [], ◌∷◌, ◌++◌, map, take, sym, ap, ◌∙◌}
use Rattle.std.specs.List.{flat_map}
use Rattle.std.proofs.lemmas.List.Folds.{flat_map-map}
use Rattle.keys.specs.Keys.{key_bytes}
use Rattle.keys.specs.declared.key.Key.{Key}
use Rattle.records.specs.Records.{record_bytes}
use Rattle.records.specs.declared.kind.Kind.TheVariants.{End, Operation, Argument as ArgumentKind, Input}
use Rattle.actions.specs.Words.{argument_body}
use Rattle.actions.specs.Actions.{longest_text, action_text, operation_record, argument_record, input_record}
use Rattle.actions.specs.Views.{argument_bytes, act_of}
use Rattle.actions.specs.declared.argument.Argument.{Argument}
use Rattle.actions.specs.declared.action.Action.{Action}
use Rattle.actions.proofs.Appends.{assembled}
use Rattle.actions.proofs.Sizes.{length_of_action}

-- the records of an action, put one behind the other into an empty text
pub text_of : (a : Action) (b0 b1 b2 b3 b4 : List ℕ) (ws : List Argument) (ks : List Key) → b4 ≡ take longest_text (b3 ++ record_bytes End []) → b3 ≡ take longest_text (b2 ++ flat_map (λ x. record_bytes Input (key_bytes x)) ks) → b2 ≡ take longest_text (b1 ++ flat_map (λ x. record_bytes ArgumentKind (argument_body (argument_bytes x))) ws) → b1 ≡ take longest_text (b0 ++ record_bytes Operation (a.letter ∷ [])) → b0 ≡ [] → map argument_bytes ws ≡ (act_of a).arguments → ks ≡ (act_of a).inputs → b4 ≡ action_text (act_of a)
text_of a b0 b1 b2 b3 b4 ws ks e4 e3 e2 e1 e0 ew ek =
    let act = act_of a in
    let records = sym (flat_map-map argument_record argument_bytes ws) ∙ ap (flat_map argument_record) ew in
    assembled longest_text (operation_record act.letter) (flat_map argument_record act.arguments) (flat_map input_record act.inputs) (0 ∷ [])
    b0 b1 b2 b3 b4 e0 e1 (e2 ∙ ap (λ xs. take longest_text (b1 ++ xs)) records) (e3 ∙ ap (λ xs. take longest_text (b2 ++ flat_map input_record xs)) ek) e4 (length_of_action a)
