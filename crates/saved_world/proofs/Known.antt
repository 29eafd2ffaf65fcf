-- The head of a checkpoint from which a world may open has storable defaults alone.
use Rattle.std.proofs.Common.{◌≡◌, List, [], ◌∷◌, Option, Some, None, Result, Ok, Err, Contains, option_map, subst, OnOk, IfSome}
use Rattle.std.specs.List.{AllByRecursion}
use Rattle.keycode.specs.Valid.{IsValue, IsStorable}
use Rattle.schema_version.specs.declared.element.ElementDef.{ElementDef}
use Rattle.schema_version.specs.declared.element.Kind.{Kind}
use Rattle.schema_version.specs.declared.element.Kind.TheVariants.{Index, Optional, Required}
use Rattle.schema_version.specs.Moves.{IsFairKind}
use Rattle.schema_version.specs.Sound.{IsSoundVersion}
use Rattle.schema_version.specs.Version.{Version, live}
use Rattle.schema_version.proofs.Lists.{here, later}
use Rattle.schema_version.proofs.Live.{live_from}
use Rattle.element_state.proofs.Visible.{short_typed}
use Rattle.reorganise.specs.declared.work.Progress.{Progress}
use Rattle.replay.specs.Kept.{IsBegun}
use Rattle.checkpoint.specs.Checkpoint.{Checkpoint, IsWhole}
use Rattle.entry_code.specs.Known.{IsKind, IsOption}
use Rattle.entry_code.specs.Parts.{IsElement, IsSchema, IsProgress, IsHead}
use Rattle.checkpoint_code.specs.declared.head.Head.{Head}
use Rattle.checkpoint_code.specs.Head.{schema_parts, parts_of, IsKnown}
use Rattle.saved_world.specs.Head.{head_of}

storable_kind : (kind : Kind) → IsFairKind kind → IsKind IsValue kind → IsKind IsStorable kind
storable_kind (Index columns) fair is = is
storable_kind (Optional type) fair is = is
storable_kind (Required type fallback) fair is = (tt, (is.1, (short_typed type fallback fair.0).0))

storable_element : (e : ElementDef) → IsFairKind e.kind → IsElement IsValue e → IsElement IsStorable e
storable_element e fair is = (is.0, (is.1.0, (is.1.1.0, (storable_kind e.kind fair is.1.1.1.0, is.1.1.1.1))))

storable_elements : (es : List ElementDef) → ((e : ElementDef) → Contains es e → IsFairKind e.kind) → AllByRecursion (IsElement IsValue) es → AllByRecursion (IsElement IsStorable) es
storable_elements [] fair is = tt
storable_elements (e ∷ es) fair is = (storable_element e (fair e (here e es)) is.0, storable_elements es (λ x there. fair x (later e x es there)) is.1)

storable_schema : (v : Version) → IsSoundVersion v → IsSchema IsValue (schema_parts v) → IsSchema IsStorable (schema_parts v)
storable_schema v sound is =
    (is.0, ((is.1.0.0, storable_elements (live v) (λ e there. (let at = live_from v e there in (sound.elements at.0 e at.1).fair)) is.1.0.1), is.1.1))

storable_before : (v : Option Version) → IfSome v IsSoundVersion → IsOption (IsSchema IsValue) (option_map schema_parts v) → IsOption (IsSchema IsStorable) (option_map schema_parts v)
storable_before None sound is = tt
storable_before (Some v) sound is = storable_schema v sound is

storable_begun : (newest : Version) (begun : List Progress) → IsSoundVersion newest → AllByRecursion (IsBegun newest) begun → AllByRecursion (IsProgress IsValue) begun → AllByRecursion (IsProgress IsStorable) begun
storable_begun newest [] sound are is = tt
storable_begun newest (p ∷ ps) sound are is =
    ((storable_element p.element (sound.elements p.element.number p.element are.0.element).fair is.0.0, is.0.1), storable_begun newest ps sound are.1 is.1)

known_head : (c : Checkpoint) → IsSoundVersion c.newest → IfSome c.before IsSoundVersion → IsHead IsValue (parts_of (head_of c)) → IsWhole c → IsKnown IsStorable (head_of c)
known_head c sound earlier is whole = record {
  line = whole.kept.valid;
  newest = sound;
  before = earlier;
  parts = (is.0, (is.1.0, (is.1.1.0, (is.1.1.1.0, (storable_schema c.newest sound is.1.1.1.1.0, (storable_before c.before earlier is.1.1.1.1.1.0, (is.1.1.1.1.1.1.0, storable_begun c.newest c.progress sound whole.kept.begun is.1.1.1.1.1.1.1)))))));
}

on_ok : {A E P Q : Type 0} (r : Result A E) → (P → Q) → OnOk r P → OnOk r Q
on_ok (Ok x) f h = f h
on_ok (Err e) f h = tt

pub known_of : {A E : Type 0} (c : Checkpoint) (h : Head) (r : Result A E) → IsWhole c → h ≡ head_of c → IsSoundVersion h.newest → IfSome h.before IsSoundVersion → OnOk r (IsHead IsValue (parts_of h)) → OnOk r (IsKnown IsStorable (head_of c))
known_of c h r whole same sound earlier is =
    on_ok r
    (λ (of : IsHead IsValue (parts_of h)). known_head c (subst (λ (x : Head). IsSoundVersion x.newest) same sound) (subst (λ (x : Head). IfSome x.before IsSoundVersion) same earlier) (subst (λ (x : Head). IsHead IsValue (parts_of x)) same of) whole)
    is
