-- What a stream's handle owns, as the block of a box.
use mir.Syntax.{impl, tnil, dnil}
use mathlib.Core.List.{[]}
use denote.RattleType.{RattleType}
use denote.Signature.{Slot, plain}
use Rattle.std_alloc.proofs.BoxSteps.Form.{Bx}
use Rattle.std_heap.specs.contracts.Global as Heap
use Rattle.std_heap.specs.contracts.GlobalAllocator.TheImpl.{ghosts, dict}
use Rattle.std_heap.proofs.Global.TheLaws as heap
use Rattle.c_handle.specs.contracts.states.OpenStream as Held
use Rattle.c_handle.proofs.states.OpenStream.TheLaws as held
use Rattle.c_handle.specs.contracts.block.Block as Block
use Rattle.c_handle.specs.contracts.stream_handle.StreamHandle as Handle

abbrev pub E : Bx
E = record { row = Held.the_row; laws = held.the_row_laws; al = record { row = Heap.the_row; laws = heap.the_row_laws; g = ghosts; d = dict; drops = impl [] tnil dnil } }

abbrev pub BlockRow : RattleType
BlockRow = Block.the_row Held.the_row Heap.the_row ghosts

abbrev pub FromBlock : Slot 0
FromBlock = plain (λ _. BlockRow)

abbrev pub FromHandle : Slot 0
FromHandle = plain (λ _. Handle.the_row)
