-- Control records and their bytes.
use Rattle.std.proofs.Common.{◌≡◌, ℕ, List, [], ◌∷◌, ◌++◌, Option, Some, refl, sym, ap, subst, ◌∙◌}
use Rattle.row_map.specs.Rows.{Bytes}
use Rattle.schema_version.specs.Sound.{IsSoundVersion}
use Rattle.schema_version.specs.Version.{Version}
use Rattle.schema_version.proofs.Restored.{parts_are_exact}
use Rattle.entry_code.specs.declared.parts.ReorgParts.{ReorgParts}
use Rattle.entry_code.proofs.RecordReaders.{schemas_tell, reorgs_tell}
use Rattle.drafts.specs.declared.record.Reorg.{Reorg}
use Rattle.drafts.specs.declared.record.Record.{Record}
use Rattle.drafts.specs.declared.record.Record.TheVariants.{Version as OfVersion, Reorg as OfReorg, Cursor as OfCursor, Mark as OfMark}
use Rattle.drafts.specs.Store.{Key, version_key}
use Rattle.record_code.specs.Drafts.{AreFitPoints}
use Rattle.record_code.specs.Restored.{version_of}
use Rattle.record_code.specs.Records.{schema_parts, reorg_parts, record_code, HasRecord, kind_of, IsUnder}

pub version_back : (v : Version) → IsSoundVersion v → version_of (schema_parts v) ≡ v
version_back v sound = parts_are_exact.whole v sound

pub version_same : (v w : Version) → IsSoundVersion v → IsSoundVersion w → schema_parts v ≡ schema_parts w → v ≡ w
version_same v w p q same = sym (version_back v p) ∙ ap version_of same ∙ version_back w q

pub reorg_same : (r s : Reorg) → reorg_parts r ≡ reorg_parts s → r ≡ s
reorg_same r s same = λ i. record { element = ap (λ (p : ReorgParts). p.element) same i; work = ap (λ (p : ReorgParts). p.work) same i; bounds = ap (λ (p : ReorgParts). p.bounds) same i }

tail : {x y : ℕ} {xs ys : List ℕ} → x ∷ xs ≡ y ∷ ys → xs ≡ ys
tail e = cc

behind : (x y : Bytes) → x ≡ y → (x ++ []) ≡ (y ++ [])
behind x y e = ap (λ (l : Bytes). l ++ []) e

-- records of one kind are told apart
pub records_tell : (r s : Record) → kind_of r ≡ kind_of s → HasRecord r → HasRecord s → record_code r ≡ record_code s → r ≡ s
records_tell (OfVersion v) (OfVersion w) kind p q e = ap OfVersion (version_same v w p.0 q.0 (schemas_tell (schema_parts v) (schema_parts w) [] [] p.1 q.1 (behind _ _ e)).0)
records_tell (OfVersion v) (OfReorg s) kind p q e = absurd cc
records_tell (OfVersion v) (OfCursor d) kind p q e = absurd cc
records_tell (OfVersion v) OfMark kind p q e = absurd cc
records_tell (OfReorg r) (OfVersion w) kind p q e = absurd cc
records_tell (OfReorg r) (OfReorg s) kind p q e = ap OfReorg (reorg_same r s (reorgs_tell (reorg_parts r) (reorg_parts s) [] [] p q (behind _ _ e)).0)
records_tell (OfReorg r) (OfCursor d) kind p q e = absurd cc
records_tell (OfReorg r) OfMark kind p q e = absurd cc
records_tell (OfCursor c) (OfVersion w) kind p q e = absurd cc
records_tell (OfCursor c) (OfReorg s) kind p q e = absurd cc
records_tell (OfCursor c) (OfCursor d) kind p q e = ap OfCursor (tail e)
records_tell (OfCursor c) OfMark kind p q e = absurd cc
records_tell OfMark (OfVersion w) kind p q e = absurd cc
records_tell OfMark (OfReorg s) kind p q e = absurd cc
records_tell OfMark (OfCursor d) kind p q e = absurd cc
records_tell OfMark OfMark kind p q e = refl

-- those under one key are of one kind
pub one_kind : (k : Key) (r s : Record) → IsUnder k r → IsUnder k s → kind_of r ≡ kind_of s
one_kind [] r s p q = absurd p
one_kind (kind ∷ rest) r s p q = sym p ∙ q

-- version 1 that is put
pub first_known : (writes : List (Key × Option Record)) (v : Version) → writes ≡ (version_key 1, Some (OfVersion v)) ∷ [] → AreFitPoints writes → HasRecord (OfVersion v)
first_known writes v e fit = (subst AreFitPoints e fit).0.value (OfVersion v) refl
