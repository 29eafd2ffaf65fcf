-- A value is the one that bytes encode exactly when they are its code.
use Rattle.std.proofs.Common.{◌≡◌, true, false, cond, [], ◌∷◌, Option, Some, None, Result, Ok, Err, IfOk, refl, sym, ap, subst, ◌∙◌}
use Rattle.std.specs.Prelude.{◌↔◌, IsTrue}
use Rattle.std.proofs.lemmas.List.{append-nil}
use Rattle.std.proofs.lemmas.Option.{same_Some}
use Rattle.std.specs.declared.alloc.AllocError.{AllocError}
use Rattle.keycode.specs.declared.fault.KeyFault.{KeyFault}
use Rattle.keycode.specs.declared.value.Value.{Value}
use Rattle.keycode.specs.Code.{code}
use Rattle.keycode.specs.Read.{value_at}
use Rattle.keycode.specs.Valid.{IsStorable}
use Rattle.keycode.proofs.Fields.{IsBytes, Takes, value_takes, value_again}
use Rattle.row_map.specs.declared.shape.ColumnType.{ColumnType}
use Rattle.row_map.specs.Cell.{IsEncoding, IsTypedEncoding, alone, only_value, of_type, typed_value}
use Rattle.row_map.specs.Rows.{Bytes}
use Rattle.row_map.specs.Shape.{has_type}

alone_is : (r : Result (Value × Bytes) KeyFault) (v : Value) → alone r ≡ Some v → r ≡ Ok (v, [])
alone_is (Ok (w, [])) v e = ap (λ (x : Value). Ok (x, [])) (same_Some w v e)
alone_is (Ok (w, b ∷ bytes)) v e = absurd cc
alone_is (Err fault) v e = absurd cc

-- what is read as just this value
pub only_reads : (bytes : Bytes) (v : Value) → only_value bytes ≡ Some v → value_at bytes ≡ Ok (v, [])
only_reads bytes v e = alone_is (value_at bytes) v e

pub only_from : (bytes : Bytes) (v : Value) → value_at bytes ≡ Ok (v, []) → only_value bytes ≡ Some v
only_from bytes v e = ap alone e

-- the code of a value encodes it
pub only_again : (v : Value) → IsStorable v → only_value (code v) ≡ Some v
only_again v s = only_from (code v) v (ap value_at (sym (append-nil (code v))) ∙ value_again v [] s.0 s.1)

pub only_is : (bytes : Bytes) → IsBytes bytes → (v : Value) → (only_value bytes ≡ Some v) ↔ IsEncoding bytes v
only_is bytes fits v = (
  λ e. let t : Takes bytes (v, []) = value_takes bytes (v, []) fits (only_reads bytes v e) in
      record { encoded = t.parts ∙ append-nil (code v); storable = (t.value, t.short) },
  λ s. ap only_value s.encoded ∙ only_again v s.storable,
)

-- so what was read as the bytes' one value is the value whose code they are
pub only_found : (r : Result (Option Value) AllocError) (bytes : Bytes) → IsBytes bytes → IfOk r (λ found. found ≡ only_value bytes) → IfOk r (λ found. (v : Value) → (found ≡ Some v) ↔ IsEncoding bytes v)
only_found (Ok found) bytes fits is = λ v. subst (λ (o : Option Value). (o ≡ Some v) ↔ IsEncoding bytes v) (sym is) (only_is bytes fits v)
only_found (Err e) bytes fits is = tt

of_type_is : (type : ColumnType) (o : Option Value) (v : Value) → of_type type o ≡ Some v → (o ≡ Some v) × IsTrue (has_type type v)
of_type_is type None v e = absurd cc
of_type_is type (Some w) v e =
    elim (has_type type w) as (λ b. has_type type w ≡ b → cond b (Some w) None ≡ Some v → (Some w ≡ Some v) × IsTrue (has_type type v)) [
      | true ↦ λ t is. (is, subst (λ x. IsTrue (has_type type x)) (same_Some w v is) t)
      | false ↦ λ t is. absurd cc
    ] refl e

pub typed_reads : (type : ColumnType) (bytes : Bytes) (v : Value) → typed_value type bytes ≡ Some v → (only_value bytes ≡ Some v) × IsTrue (has_type type v)
typed_reads type bytes v e = of_type_is type (only_value bytes) v e

pub typed_from : (type : ColumnType) (bytes : Bytes) (v : Value) → only_value bytes ≡ Some v → IsTrue (has_type type v) → typed_value type bytes ≡ Some v
typed_from type bytes v e t = ap (of_type type) e ∙ ap (λ b. cond b (Some v) None) t

-- the code of a value of the type encodes it
pub typed_again : (type : ColumnType) (v : Value) → IsStorable v → IsTrue (has_type type v) → typed_value type (code v) ≡ Some v
typed_again type v s t = typed_from type (code v) v (only_again v s) t

pub typed_is : (type : ColumnType) (bytes : Bytes) → IsBytes bytes → (v : Value) → (typed_value type bytes ≡ Some v) ↔ IsTypedEncoding type bytes v
typed_is type bytes fits v = (
  λ e. let t = typed_reads type bytes v e in let s = (only_is bytes fits v).0 t.0 in record { encoded = s.encoded; typed = t.1; storable = s.storable },
  λ s. typed_from type bytes v ((only_is bytes fits v).1 (record { encoded = s.encoded; storable = s.storable })) s.typed,
)

-- so what was read as the bytes' one value of the type is the value of the type whose code they are
pub typed_found : (type : ColumnType) (bytes : Bytes) → IsBytes bytes → (found read : Option Value) → read ≡ only_value bytes → found ≡ of_type type read → (v : Value) → (found ≡ Some v) ↔ IsTypedEncoding type bytes v
typed_found type bytes fits found read one is v =
    subst (λ (o : Option Value). (o ≡ Some v) ↔ IsTypedEncoding type bytes v) (sym (is ∙ ap (of_type type) one)) (typed_is type bytes fits v)
