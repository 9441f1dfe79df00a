use Rattle.std.proofs.Common.{◌≡◌, ℕ, true, cond, leb, List, length, Some, Option, sym, ap, ◌∙◌, arith}
use Rattle.std.specs.Option.{option_map}
use Rattle.std.proofs.lemmas.Bool.{le-leb}
use Rattle.keys.specs.Digests.{value_room}
use Rattle.keys.specs.declared.key.Key.{Key}
use Rattle.lists.specs.Each.{zeros_to}
use Rattle.stores.specs.Numbers.{padded}
use Rattle.entries.specs.Blocks.{filled}
use Rattle.entries.specs.Entries.{value_of}
use Rattle.entries.specs.declared.entry.Entry.{Entry}
use Rattle.log_store.specs.declared.log.Log.{Log}
use Rattle.log_store.specs.Contents.{log_entries, last_value}
use Rattle.log_store.specs.Storing.{bytes_of, value_found}
use Rattle.log_store.specs.Lasts.{last_among}
use Rattle.log_store.specs.Appends.{entries_short}

-- what a walk over the bytes of a log met is what a find looks up
pub seen : (s : Log) (k : Key) (bs : List ℕ) (last met : Option Entry) → bs ≡ bytes_of s → option_map value_of last ≡ last_value k (log_entries bs) → last ≡ met → value_found s k ≡ option_map value_of met
seen s k bs last met eb el em = ap (λ xs. last_value k (log_entries xs)) (sym eb) ∙ (sym el ∙ ap (option_map value_of) em)

-- a value that a log holds fills a buffer of a value's room
pub filled_room : (s : Log) (k : Key) (v buffer out : List ℕ) → value_found s k ≡ Some v → length buffer ≡ value_room → out ≡ filled v buffer → out ≡ padded v
unfolding padded
filled_room s k v buffer out f room e =
    let short = entries_short (bytes_of s) (record { key = k; value = v }) (last_among k (log_entries (bytes_of s)) v f) in
    let t : leb (length v) (length buffer) ≡ true = le-leb (length v) (length buffer) (omega arith) in
    e ∙ (ap (λ c. cond c (zeros_to (length buffer) v) buffer) t ∙ ap (λ n. zeros_to n v) room)
