-- What a seal owns: nothing, or the box.
use base.Fml.{Fml, ftrue}
use base.Stored.{Coded}
use denote.RawPtr.{Ptr}
use Rattle.std.specs.declared.option.Option.{Option}
use Rattle.std.specs.declared.option.Option.TheVariants.{None, Some}
use Rattle.std.specs.declared.alloc.Global.{Global}
use Rattle.std.specs.Box.Ownership.{box_owns}
use Rattle.std.specs.contracts.impls.GlobalAllocator.TheImpl.{ghosts}
use Rattle.ccan_endless.specs.contracts.note.Note.{the_row as note_row}
use Rattle.ccan_c.specs.contracts.held.Held.{the_row}

abbrev pub seal_owns : Global → Ptr → Option the_row.Denot → Fml
seal_owns alloc p None = ftrue
seal_owns alloc p (Some x) = box_owns (ghosts.dealloc_token alloc) the_row p x

abbrev pub held_coded : Coded the_row.Denot
held_coded = the_row.coded

-- the same for a note
abbrev pub note_seal_owns : Global → Ptr → Option note_row.Denot → Fml
note_seal_owns alloc p None = ftrue
note_seal_owns alloc p (Some x) = box_owns (ghosts.dealloc_token alloc) note_row p x

abbrev pub note_coded : Coded note_row.Denot
note_coded = note_row.coded
