use Rattle.std.specs.Prelude.{ℕ, ◌+◌, Bool, false, cond, ◌&&◌, ◌||◌, List, [], ◌∷◌, map, length, take, drop, Some, None, Ok, Err, string_bytes, codes, Option, Result, ◌==◌, nat_lt}
use Rattle.std.specs.Str.{bytes_eq}
use Rattle.commands.specs.declared.DigestName.{DigestName}
use Rattle.commands.specs.declared.DigestName.TheVariants.{Fnv1a, Tally}
use Rattle.commands.specs.declared.Layout.{Layout}
use Rattle.commands.specs.declared.Layout.TheVariants.{Slots, Log}
use Rattle.commands.specs.declared.Command.{Command}
use Rattle.commands.specs.declared.Command.TheVariants.{Help, Key, Action, ListCache}
use Rattle.commands.specs.declared.Misuse.{Misuse}
use Rattle.commands.specs.declared.Misuse.TheVariants.{NoCommand, UnknownCommand, NoDigest, UnknownDigest, StrayOption, NoFile, NoLetter, NoFrom, Incomplete, NoLayout, UnknownLayout, OneFileOnly}

-- a word of the command line, as its bytes
abbrev pub Word : Type 0
Word = List ℕ

-- what a command line asks for, or what is wrong with it
pub data Reading : Type 0 where
  help : Reading
  key : DigestName → List Word → Reading
  action : Word → List Word → List Word → Reading
  list_cache : Option Layout → Word → Reading
  no_command : Reading
  unknown_command : Word → Reading
  no_digest : Reading
  unknown_digest : Word → Reading
  stray_option : Word → Reading
  no_file : Reading
  no_letter : Reading
  no_from : Reading
  incomplete : Word → Reading
  no_layout : Reading
  unknown_layout : Word → Reading
  one_file_only : Word → Reading

-- an answer of the code, with the words that it borrows
abbrev pub reading : Result Command Misuse → Reading
reading (Ok Help) = help
reading (Ok (Key d files)) = key d (map string_bytes files.now)
reading (Ok (Action l ws ks)) = action l.now (map string_bytes ws.now) (map string_bytes ks.now)
reading (Ok (ListCache l f)) = list_cache l f.now
reading (Err NoCommand) = no_command
reading (Err (UnknownCommand w)) = unknown_command w.now
reading (Err NoDigest) = no_digest
reading (Err (UnknownDigest w)) = unknown_digest w.now
reading (Err (StrayOption w)) = stray_option w.now
reading (Err NoFile) = no_file
reading (Err NoLetter) = no_letter
reading (Err NoFrom) = no_from
reading (Err (Incomplete w)) = incomplete w.now
reading (Err NoLayout) = no_layout
reading (Err (UnknownLayout w)) = unknown_layout w.now
reading (Err (OneFileOnly w)) = one_file_only w.now

-- whether a word is an option: it begins with two hyphens
abbrev pub is_option : Word → Bool
is_option [] = false
is_option (a ∷ []) = false
is_option (a ∷ b ∷ w) = a == 45 && b == 45

-- the first word that is an option
abbrev pub first_option : List Word → Option Word
first_option [] = None
first_option (w ∷ ws) = cond (is_option w) (Some w) (first_option ws)

-- file names, none of which may look like an option
abbrev pub with_files : DigestName → List Word → Option Word → Reading
with_files d ws (Some w) = stray_option w
with_files d [] None = no_file
with_files d (w ∷ ws) None = key d (w ∷ ws)

abbrev pub read_files : DigestName → List Word → Reading
read_files d ws = with_files d ws (first_option ws)

-- the name of a digest, then file names
abbrev pub read_digest : List Word → Reading
read_digest [] = no_digest
read_digest (w ∷ ws) =
    cond (bytes_eq w (codes "fnv1a")) (read_files Fnv1a ws) (cond (bytes_eq w (codes "tally")) (read_files Tally ws) (unknown_digest w))

-- the words behind `key`: perhaps a digest, then file names
abbrev pub read_key : List Word → Reading
read_key [] = no_file
read_key (w ∷ ws) = cond (bytes_eq w (codes "--digest")) (read_digest ws) (read_files Fnv1a (w ∷ ws))

-- how many words stand before the first `from`
abbrev pub from_place : List Word → ℕ
from_place [] = 0
from_place (w ∷ ws) = cond (bytes_eq w (codes "from")) 0 (1 + from_place ws)

-- a letter, arguments up to the first `from`, and the words behind it
abbrev pub with_from : Word → List Word → Reading
with_from l ws =
    cond (nat_lt (from_place ws) (length ws)) (action l (take (from_place ws) ws) (drop (1 + from_place ws) ws)) no_from

-- the words behind `action`
abbrev pub read_action : List Word → Reading
read_action [] = no_letter
read_action (l ∷ ws) = with_from l ws

-- one file name, which may not look like an option, and nothing behind it
abbrev pub with_one_file : Option Layout → List Word → Option Word → Reading
with_one_file l ws (Some w) = stray_option w
with_one_file l [] None = no_file
with_one_file l (w ∷ []) None = list_cache l w
with_one_file l (w ∷ x ∷ ws) None = one_file_only x

abbrev pub read_one_file : Option Layout → List Word → Reading
read_one_file l ws = with_one_file l ws (first_option ws)

-- the name of a layout, then a file
abbrev pub read_layout : List Word → Reading
read_layout [] = no_layout
read_layout (w ∷ ws) =
    cond (bytes_eq w (codes "slots")) (read_one_file (Some Slots) ws) (cond (bytes_eq w (codes "log")) (read_one_file (Some Log) ws) (unknown_layout w))

-- the words behind `cache list`: perhaps a layout, then a file
abbrev pub read_list : List Word → Reading
read_list [] = no_file
read_list (w ∷ ws) = cond (bytes_eq w (codes "--as")) (read_layout ws) (read_one_file None (w ∷ ws))

-- the words behind `cache`
abbrev pub read_cache : Word → List Word → Reading
read_cache name [] = incomplete name
read_cache name (w ∷ ws) = cond (bytes_eq w (codes "list")) (read_list ws) (unknown_command w)

-- the words of a command line behind the program's name
abbrev pub read_command : List Word → Reading
read_command [] = no_command
read_command (w ∷ ws) =
    cond (bytes_eq w (codes "help") || bytes_eq w (codes "--help")) help (cond (bytes_eq w (codes "key")) (read_key ws) (cond (bytes_eq w (codes "action")) (read_action ws) (unknown_command w)))

-- the words of a command line that may name a cache too
abbrev pub read_words : List Word → Reading
read_words [] = no_command
read_words (w ∷ ws) = cond (bytes_eq w (codes "cache")) (read_cache w ws) (read_command (w ∷ ws))
