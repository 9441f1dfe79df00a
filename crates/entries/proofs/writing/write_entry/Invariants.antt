use Rattle.std.proofs.Common.{◌≡◌, ◌+◌, ◌*◌, ◌≤◌, length, drop}
use lib.Seq.{paste}
use Rattle.std.specs.Slice.Iter.{chunks_rest, chunks_size}
use Rattle.records.specs.declared.kind.Kind.TheVariants.{LogHead}
use Rattle.records.specs.Records.{record_size}
use Rattle.entries.specs.Blocks.{block_count, padded, blocks}
use Rattle.entries.proofs.writing.write_entry.Given as goal

-- so many blocks are written as pieces were taken, and the next goes behind them
abbrev pub invariant-loop-piece : goal.invariant-loop-piece
invariant-loop-piece l =
    record {
      size : chunks_size l.piece-iterator ≡ 32;
      left : chunks_rest l.piece-iterator ≡ drop (length l.yielded * 32) l.value;
      within : length l.yielded ≤ block_count (length l.value);
      place : l.end ≡ record_size LogHead + length l.yielded * 33;
      written : l.into ≡ paste l.initial.into (record_size LogHead) (blocks (length l.yielded) (padded l.value)) (length l.yielded * 33);
    }
