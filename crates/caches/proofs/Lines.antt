use Rattle.std.proofs.Common.{◌≡◌, ℕ, ◌-◌, ◌≤◌, List, ◌++◌, length, Some, None, sym, ap, ◌∙◌, arith}
use Rattle.std.proofs.lemmas.List.{append_assoc, append-nil}
use Rattle.records.specs.Records.{Split}
use Rattle.entries.specs.Entries.{Logged, read_entry}
use Rattle.log_store.specs.Contents.{log_entries, log_rest}
use Rattle.log_store.specs.Appends.{entries_some, entries_none, rest_within}
use Rattle.caches.specs.Listings.{entry_line, entry_lines, last_line, log_listing}

-- where no entry is left, what is left is the rest of the log
pub at_rest : (bs rest : List ℕ) → None ≡ read_entry rest → log_rest bs ≡ log_rest rest → (log_rest bs ≡ rest) × (length rest ≤ length bs)
at_rest bs rest h er =
    let e = er ∙ (entries_none rest (sym h)).1 in
    let l = ap length e in
    (e, omega (arith, (rest_within bs).0))

module _ (most : ℕ) (words : List ℕ → List ℕ) where
  -- one entry more
  pub entry_more : (bs rest next text line out : List ℕ) (e : Split Logged) → Some e ≡ read_entry rest → next ≡ e.rest → line ≡ entry_line most words e.part → out ≡ text ++ line → entry_lines most words (log_entries bs) ≡ text ++ entry_lines most words (log_entries rest) → entry_lines most words (log_entries bs) ≡ out ++ entry_lines most words (log_entries next)
  entry_more bs rest next text line out e h en el eo inv =
      let s = entries_some rest e (sym h) in
      let more = entry_lines most words (log_entries e.rest) in
      inv ∙ (ap (λ es. text ++ entry_lines most words es) s.0 ∙ (sym (append_assoc text (entry_line most words e.part) more)
      ∙ (ap (λ xs. (text ++ xs) ++ more) (sym el) ∙ (ap (λ xs. xs ++ more) (sym eo) ∙ ap (λ xs. out ++ entry_lines most words (log_entries xs)) (sym en)))))

  -- no entry is left: the last line closes the listing
  pub listed : (bs rest text last out : List ℕ) → None ≡ read_entry rest → entry_lines most words (log_entries bs) ≡ text ++ entry_lines most words (log_entries rest) → log_rest bs ≡ log_rest rest → last ≡ last_line (length bs - length rest) rest → out ≡ text ++ last → out ≡ log_listing most words bs
  listed bs rest text last out h inv er el eo =
      let e = (at_rest bs rest h er).0 in
      let lines = entry_lines most words (log_entries bs) in
      let t : text ≡ lines = sym (inv ∙ (ap (λ es. text ++ entry_lines most words es) (entries_none rest (sym h)).0 ∙ append-nil text)) in
      eo ∙ (ap (λ xs. xs ++ last) t ∙ ap (λ xs. lines ++ xs) (el ∙ ap (λ xs. last_line (length bs - length xs) xs) (sym e)))
