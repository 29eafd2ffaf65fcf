-- A place may cross threads, since an engine and what frees its block may.
use mir.Raw.{raw}
use denote.Memory.{lone}
use denote.RawPtr.{Ptr}
use base.Shift.{Keyless}
use denote.Struct.Struct.{exits_of}
use denote.Struct.Owning.{shape, fields, to}
use denote.Param.Send.{IsSend, AllSend, owning_send, struct_send, sendable}
use Rattle.std.specs.Prelude.{Option, Some, None}
use Rattle.std.specs.Global.{Global}
use Rattle.std.proofs.Crossing as heap
use Rattle.std_alloc.proofs.SendSync.{quiet, lies}
use Rattle.std_heap.proofs.Global.TheSendSync as handle
use Rattle.handles.specs.Owned.{place_owns}
use Rattle.handles.specs.contracts.engine.Engine as Engine
use Rattle.handles.proofs.engine.Engine.TheSendSync.{the_send as engine}
use Rattle.handles.specs.contracts.place.Place.{the_row, the_type}

owned : (a : Global) (p : Ptr) (o : Option Engine.the_row.Denot) → Keyless (place_owns a p o)
owned a p None = tt
owned a p (Some x) = (lies Engine.the_row engine p x, heap.frees.frees a (raw (lone Engine.the_row.mir)) p)

pub send : IsSend the_row
send =
    let all : AllSend (fields the_type) = (search sendable, (handle.the_field_send, tt)) in
    owning_send the_type all (λ d. owned d.alloc d.at d.value) (λ k. quiet (to the_type) (exits_of k (fields the_type)) ((struct_send (shape the_type) all).leaving k))
