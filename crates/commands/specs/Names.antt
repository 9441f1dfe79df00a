use Rattle.std.specs.Prelude.{◌≡◌, ℕ, cond, List, ◌++◌, Ok, Err, codes, Result}
use Rattle.std.specs.Str.{bytes_eq}
use Rattle.commands.specs.declared.DigestName.{DigestName}
use Rattle.commands.specs.declared.DigestName.TheVariants.{Fnv1a, Tally}
use Rattle.commands.specs.declared.Layout.{Layout}
use Rattle.commands.specs.declared.Layout.TheVariants.{Slots, Log}
use Rattle.commands.specs.declared.UnknownName.{UnknownName}
use Rattle.commands.specs.declared.Misuse.{Misuse}
use Rattle.commands.specs.declared.Misuse.TheVariants.{NoCommand, UnknownCommand, NoDigest, UnknownDigest, StrayOption, NoFile, NoLetter, NoFrom, Incomplete, NoLayout, UnknownLayout, OneFileOnly}

-- what the name of a digest reads as
abbrev pub NamesDigest : List ℕ → Result DigestName UnknownName → Type 0
NamesDigest w r =
    r ≡ cond (bytes_eq w (codes "fnv1a")) (Ok Fnv1a) (cond (bytes_eq w (codes "tally")) (Ok Tally) (Err (record {})))

-- what the name of a layout reads as
abbrev pub NamesLayout : List ℕ → Result Layout UnknownName → Type 0
NamesLayout w r =
    r ≡ cond (bytes_eq w (codes "slots")) (Ok Slots) (cond (bytes_eq w (codes "log")) (Ok Log) (Err (record {})))

-- what is said of a command line that is not understood
abbrev pub misuse_text : Misuse → List ℕ
misuse_text NoCommand = codes "no command"
misuse_text (UnknownCommand w) = codes "there is no command '" ++ (w.now ++ codes "'")
misuse_text NoDigest = codes "--digest wants a name, fnv1a or tally"
misuse_text (UnknownDigest w) = codes "there is no digest '" ++ (w.now ++ codes "': fnv1a and tally are")
misuse_text (StrayOption w) = codes "'" ++ (w.now ++ codes "' is no option here; options stand before the files")
misuse_text NoFile = codes "no file is named"
misuse_text NoLetter = codes "an action wants a letter, arguments, 'from' and keys"
misuse_text NoFrom = codes "an action wants 'from' before its keys"
misuse_text (Incomplete w) = codes "'" ++ (w.now ++ codes "' wants another word, as in 'cache list'")
misuse_text NoLayout = codes "--as wants a layout, slots or log"
misuse_text (UnknownLayout w) = codes "there is no layout '" ++ (w.now ++ codes "': slots and log are")
misuse_text (OneFileOnly w) = codes "one file at a time; '" ++ (w.now ++ codes "' is one too many")
