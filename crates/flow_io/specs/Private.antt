-- What a clause reads of a block. No public clause cites this module.
use Rattle.std.specs.Prelude.{ℕ, List, slice_range}
use Rattle.flow_io.specs.declared.block.Block.{Block}

-- the bytes that a block holds
abbrev pub items : Block → List ℕ
items block = slice_range block.bytes.items block.start block.end
