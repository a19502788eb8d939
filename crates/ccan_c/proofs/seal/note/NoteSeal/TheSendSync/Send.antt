-- A seal may go to another thread, since what it may hold may.
use mir.Raw.{raw}
use base.Shift.{Keyless}
use denote.Memory.{lone}
use denote.RawPtr.{Ptr}
use denote.Struct.Struct.{exits_of}
use denote.Struct.Owning.{shape, fields, to}
use denote.Param.Send.{IsSend, AllSend, owning_send, struct_send, sendable}
use Rattle.std.specs.declared.alloc.Global.{Global}
use Rattle.std.specs.declared.option.Option.{Option}
use Rattle.std.specs.declared.option.Option.TheVariants.{None, Some}
use Rattle.std.proofs.Crossing as heap
use Rattle.std_alloc.proofs.SendSync.{quiet, lies}
use Rattle.std_heap.proofs.Global.TheSendSync as handle
use Rattle.ccan_c.specs.Seals.{note_seal_owns}
use Rattle.ccan_endless.specs.contracts.note.Note as Held
use Rattle.ccan_endless.proofs.note.Note.TheSendSync.{the_send as held}
use Rattle.ccan_c.specs.contracts.seal.note.NoteSeal.{the_row, the_type}

crosses : (alloc : Global) (p : Ptr) (o : Option Held.the_row.Denot) → Keyless (note_seal_owns alloc p o)
crosses alloc p None = tt
crosses alloc p (Some x) = (lies Held.the_row held p x, heap.frees.frees alloc (raw (lone Held.the_row.mir)) p)

pub send : IsSend the_row
send =
    let all : AllSend (fields the_type) = (search sendable, (handle.the_field_send, tt)) in
    owning_send the_type all (λ d. crosses d.alloc d.ptr d.value)
    (λ k. quiet (to the_type) (exits_of k (fields the_type)) ((struct_send (shape the_type) all).leaving k))
