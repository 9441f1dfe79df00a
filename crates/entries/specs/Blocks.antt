use Rattle.std.specs.Prelude.{ℕ, zero, suc, ◌+◌, ◌-◌, ◌*◌, ◌/◌, ◌%◌, Bool, true, cond, ◌&&◌, List, [], ◌++◌, length, take, drop, Some, None, Option, nat_le}
use Rattle.lists.specs.Each.{zeros_to}
use Rattle.records.specs.declared.kind.Kind.TheVariants.{LogHead, LogBlock}
use Rattle.records.specs.Records.{Split, block_size, record_size, record_bytes, begins_record}

-- how many blocks a value of so many bytes fills
abbrev pub block_count : ℕ → ℕ
block_count n = (n + (block_size - 1)) / block_size

-- how many bytes so many block records take
abbrev pub blocks_size : ℕ → ℕ
blocks_size n = n * record_size LogBlock

-- the size of the entry of a value of so many bytes
abbrev pub entry_size : ℕ → ℕ
entry_size n = record_size LogHead + blocks_size (block_count n)

-- what a buffer holds once it is filled with some bytes and zeros behind them, where they fit
abbrev pub filled : List ℕ → List ℕ → List ℕ
filled bs buffer = cond (nat_le (length bs) (length buffer)) (zeros_to (length buffer) bs) buffer

-- a value, then zeros up to whole blocks
abbrev pub padded : List ℕ → List ℕ
padded v = zeros_to (block_count (length v) * block_size) v

-- n block records of some bytes, a block of them in each
abbrev pub blocks : ℕ → List ℕ → List ℕ
blocks zero bs = []
blocks (suc n) bs = record_bytes LogBlock (take block_size bs) ++ blocks n (drop block_size bs)

-- whether n whole block records stand at the front of bytes
abbrev pub whole_blocks : ℕ → List ℕ → Bool
whole_blocks zero bs = true
whole_blocks (suc n) bs = begins_record LogBlock bs && whole_blocks n (drop (record_size LogBlock) bs)

-- n whole block records at the front and the bytes behind, absent unless all n are whole
abbrev pub split_blocks : ℕ → List ℕ → Option (Split (List ℕ))
split_blocks n bs =
    cond (whole_blocks n bs) (Some (record { part = take (blocks_size n) bs; rest = drop (blocks_size n) bs })) None

-- the bodies of the first n block records, joined
abbrev pub joined_bodies : ℕ → List ℕ → List ℕ
joined_bodies zero bs = []
joined_bodies (suc n) bs = take block_size (drop 1 bs) ++ joined_bodies n (drop (record_size LogBlock) bs)

-- the joined bodies of n block records at the front and the bytes behind, absent unless all n are whole
abbrev pub bodies : ℕ → List ℕ → Option (Split (List ℕ))
bodies n bs =
    cond (whole_blocks n bs) (Some (record { part = joined_bodies n bs; rest = drop (blocks_size n) bs })) None

-- where the byte i of the joined bodies stands in the block records
abbrev pub place : ℕ → ℕ
place i = blocks_size (i / block_size) + (1 + i % block_size)
