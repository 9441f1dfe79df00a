use Rattle.std.specs.Prelude.{ℕ, zero, suc, Bool, true, false, cond, List, [], ◌∷◌, ◌++◌, length, Some, None, codes, decimal, Option, ◌==◌}
use Rattle.std.specs.List.{flat_map}
use Rattle.keys.specs.Digests.{key_of}
use Rattle.keys.specs.Keys.{same_key}
use Rattle.keys.specs.declared.key.Key.{Key}
use Rattle.keys.specs.Texts.{key_text}
use Rattle.records.specs.declared.kind.Kind.TheVariants.{LogHead}
use Rattle.records.specs.Records.{kind_number}
use Rattle.slots.specs.Table.{slot_count, Pair, pair_at, is_damaged_at}
use Rattle.entries.specs.Entries.{Logged}
use Rattle.log_store.specs.Contents.{log_entries, log_rest, log_end}

-- whether bytes are taken for a log: their first byte is that of the head of an entry
abbrev pub looks_like_log : List ℕ → Bool
looks_like_log [] = false
looks_like_log (b ∷ bs) = b == kind_number LogHead

-- whether a key is a certain one, that may be absent
abbrev pub is_certain : Key → Option Key → Bool
is_certain k None = false
is_certain k (Some j) = same_key j k

-- a text, a number and a word, two spaces apart
abbrev pub in_columns : List ℕ → ℕ → List ℕ → List ℕ
in_columns text n word = text ++ (codes "  " ++ (decimal n ++ (codes "  " ++ word)))

-- the line about a slot
abbrev pub about_slot : ℕ → List ℕ → List ℕ
about_slot i text = codes "slot " ++ (decimal i ++ (codes "  " ++ (text ++ codes "\n")))

module _ (most : ℕ) (words : List ℕ → List ℕ) where
  -- whether a key is the key of a value
  abbrev pub is_own_key : Key → List ℕ → Bool
  is_own_key k v = is_certain k (key_of most words v)

  -- whether the key of a pair is that of its value, in words
  abbrev pub own_word : Key → List ℕ → List ℕ
  own_word k v = cond (is_own_key k v) (codes "own-key") (codes "other-key")

  -- a pair as text: its key, its length, whether the key is that of the value
  abbrev pub pair_text : Key → List ℕ → List ℕ
  pair_text k v = in_columns (key_text k) (length v) (own_word k v)

  -- the line of a slot: its pair, or that it is damaged; an empty slot has none
  abbrev pub slot_line : ℕ → Bool → Option Pair → List ℕ
  slot_line i damaged None = cond damaged (about_slot i (codes "damaged, read as empty")) []
  slot_line i damaged (Some p) = about_slot i (pair_text p.key p.value)

  -- the lines of the first n slots
  abbrev pub slot_lines : ℕ → List ℕ → List ℕ
  slot_lines zero bs = []
  slot_lines (suc n) bs = slot_lines n bs ++ slot_line n (is_damaged_at n bs) (pair_at n bs)

  -- the listing of a table of slots
  abbrev pub slots_listing : List ℕ → List ℕ
  slots_listing bs = slot_lines (slot_count (length bs)) bs

  -- the line of an entry
  abbrev pub entry_line : Logged → List ℕ
  entry_line e = pair_text e.key e.value ++ codes "\n"

  -- the lines of some entries
  abbrev pub entry_lines : List Logged → List ℕ
  entry_lines es = flat_map entry_line es

-- whether a log ends as a store leaves it: at the end of its bytes, or at a zero
abbrev pub ends_well : List ℕ → Bool
ends_well [] = true
ends_well (b ∷ bs) = b == 0

-- the last line of a log's listing: where its entries end, and whether they end as a store leaves them
abbrev pub good_end : ℕ → List ℕ
good_end place = codes "the entries end at byte " ++ (decimal place ++ codes "\n")

abbrev pub bad_end : ℕ → List ℕ
bad_end place =
    codes "damaged at byte " ++ (decimal place ++ codes ": no whole entry begins there, and nothing behind it is read\n")

abbrev pub last_line : ℕ → List ℕ → List ℕ
last_line place rest = cond (ends_well rest) (good_end place) (bad_end place)

-- the listing of a log: its entries in order, then where they end
abbrev pub log_listing : ℕ → (List ℕ → List ℕ) → List ℕ → List ℕ
log_listing most words bs = entry_lines most words (log_entries bs) ++ last_line (log_end bs) (log_rest bs)
