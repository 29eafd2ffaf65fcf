-- Control records and drafts: what is read was written so, and each has one code.
use Rattle.std.proofs.Common.{◌≡◌, ℕ, List, ◌++◌, refl}
use Rattle.keycode.specs.Valid.{IsValue, IsStorable}
use Rattle.schema_version.specs.declared.element.ElementDef.{ElementDef}
use Rattle.entry_code.specs.declared.parts.SchemaParts.{SchemaParts}
use Rattle.entry_code.specs.declared.parts.ReorgParts.{ReorgParts}
use Rattle.entry_code.specs.declared.parts.RangeParts.{RangeParts}
use Rattle.entry_code.specs.declared.parts.DraftParts.{DraftParts}
use Rattle.entry_code.specs.Parts.{element_code, schema_code, IsElement, IsSchema}
use Rattle.entry_code.specs.Records.{Points, point_list_code, reorg_code, range_code, draft_code, schema_parts_code, reorg_parts_code, points_code, draft_parts_code, IsReorgParts, ArePoints, IsRange, IsDraft}
use Rattle.entry_code.specs.inner.RecordsAt.{point_list_at, reorg_at, range_at, draft_at}
use Rattle.entry_code.proofs.Asked.{option_reader}
use Rattle.entry_code.proofs.Codes.{IsCode, read_code, number_code, pair_is, parts_is, list_is, kind_tells, versioned_is}
use Rattle.entry_code.proofs.PartReaders.{element_reader, work_reader, way_reader, pairs_reader}
use Rattle.entry_code.proofs.Readers.{IsReader, bytes_reader, text_reader, pair_reader, map_reader, list_reader}
use Rattle.entry_code.proofs.Types.{type_reader, state_reader}

-- ---- they are read

pub points_reader : IsReader ArePoints point_list_code point_list_at
points_reader = list_reader (pair_reader bytes_reader (option_reader bytes_reader))

pub reorg_reader : IsReader (IsReorgParts IsStorable) reorg_code reorg_at
unfolding reorg_at
reorg_reader = map_reader _ (λ (r : ReorgParts). (r.element, (r.work, r.bounds))) (λ _. refl) (λ _. refl) (pair_reader element_reader (pair_reader work_reader pairs_reader))

range_reader : IsReader IsRange range_code range_at
unfolding range_at
range_reader = map_reader _ (λ (r : RangeParts). (r.low, (r.high, r.pairs))) (λ _. refl) (λ _. refl) (pair_reader bytes_reader (pair_reader bytes_reader pairs_reader))

pub draft_reader : IsReader IsDraft draft_code draft_at
unfolding draft_at
draft_reader = map_reader _ (λ (d : DraftParts). (d.compare, (d.ranges, d.write))) (λ _. refl) (λ _. refl) (pair_reader points_reader (pair_reader (list_reader range_reader) points_reader))

-- ---- their codes tell them apart

element_is : IsCode (IsElement IsValue) element_code
element_is =
    parts_is (λ r. record { number = r.0; table = r.1.0; name = r.1.1.0; kind = r.1.1.1.0; state = r.1.1.1.1.0; way = r.1.1.1.1.1 })
    (λ (e : ElementDef). (e.number, (e.table, (e.name, (e.kind, (e.state, e.way)))))) (λ _. refl)
    (pair_is number_code (pair_is number_code (pair_is (read_code text_reader) (pair_is (record { tells = kind_tells }) (pair_is (read_code state_reader) (read_code way_reader))))))

schema_is : IsCode (IsSchema IsValue) schema_code
schema_is =
    let columns = list_reader (pair_reader text_reader type_reader) in
    parts_is (λ r. record { tables = r.0; elements = r.1.0; next = r.1.1 }) (λ (s : SchemaParts). (s.tables, (s.elements, s.next))) (λ _. refl)
    (pair_is (read_code (list_reader (pair_reader text_reader columns))) (pair_is (list_is element_is) number_code))

reorg_is : IsCode (IsReorgParts IsValue) reorg_code
reorg_is =
    parts_is (λ r. record { element = r.0; work = r.1.0; bounds = r.1.1 }) (λ (r : ReorgParts). (r.element, (r.work, r.bounds))) (λ _. refl)
    (pair_is element_is (pair_is (read_code work_reader) (read_code pairs_reader)))

pub schemas_tell : (a b : SchemaParts) (r s : List ℕ) → IsSchema IsValue a → IsSchema IsValue b → schema_parts_code a ++ r ≡ schema_parts_code b ++ s → (a ≡ b) × (r ≡ s)
schemas_tell = versioned_is schema_is

pub reorgs_tell : (a b : ReorgParts) (r s : List ℕ) → IsReorgParts IsValue a → IsReorgParts IsValue b → reorg_parts_code a ++ r ≡ reorg_parts_code b ++ s → (a ≡ b) × (r ≡ s)
reorgs_tell = versioned_is reorg_is

pub points_tell : (a b : Points) (r s : List ℕ) → ArePoints a → ArePoints b → points_code a ++ r ≡ points_code b ++ s → (a ≡ b) × (r ≡ s)
points_tell = versioned_is (read_code points_reader)

pub drafts_tell : (a b : DraftParts) (r s : List ℕ) → IsDraft a → IsDraft b → draft_parts_code a ++ r ≡ draft_parts_code b ++ s → (a ≡ b) × (r ≡ s)
drafts_tell = versioned_is (read_code draft_reader)
