-- Why a page is refused.
use Rattle.std.proofs.Common.{◌≡◌, ℕ, ◌<◌, Bool, true, false, ◌&&◌, List, [], ◌∷◌, Option, Some, None, Result, Ok, Err, option_map, inl, inr, ◌⊎◌, refl, sym, ap, ◌∙◌, arith, true≢false}
use Rattle.std.specs.Prelude.{IfErr, OnOk}
use Rattle.std.specs.Cmp.Lexicographic.{pointwise}
use Rattle.collections.specs.Refusal.{IsRefusal, IsClear}
use Rattle.keycode.specs.declared.value.Value.{Value}
use Rattle.row_map.specs.declared.shape.ColumnType.{ColumnType}
use Rattle.schema_version.specs.Shape.{key_types}
use Rattle.schema_version.specs.Version.{Version, Table, table_at}
use Rattle.row_query.specs.declared.fault.QueryFault.{QueryFault}
use Rattle.row_query.specs.declared.fault.QueryFault.TheVariants.{NoTable, NotPublic, WrongType, Memory}
use Rattle.row_query.specs.declared.query.Query.{Query}
use Rattle.row_query.specs.Kinds.{has_kind}
use Rattle.row_query.specs.declared.query.Cond.TheVariants.{Key, Equal, Between}
use Rattle.row_query.specs.Refused.{IsRefused, IsSound, Part, Named, Where, PartFault, rank}
use Rattle.row_query.proofs.Unique.{only_one, sound_clear}
use Rattle.row_page.specs.Refused.{IsBadLimit, IsBadKey, IsBadRange, AskedCondition, page_rank, PageCondition}
use Rattle.row_page.specs.declared.fault.PageFault.{PageFault}
use Rattle.row_page.specs.declared.fault.PageFault.TheVariants.{BadLimit, Query as Faulty}
use Rattle.row_page.specs.declared.range.KeyRange.{KeyRange}
use Rattle.row_page.specs.inner.Fits.{key_fits, bound_fits, fits_in, range_fits, with_range}

-- ---- keys

key_test : (columns : List (List ℕ × ColumnType)) (key : List Value) → key_fits columns key ≡ pointwise has_kind (key_types columns) key
key_test [] [] = refl
key_test [] (v ∷ vs) = refl
key_test (c ∷ cs) [] = refl
key_test (c ∷ cs) (v ∷ vs) = ap (λ b. has_kind c.1 v && b) (key_test cs vs)

clash : {A : Type 0} (b : Bool) → b ≡ true → b ≡ false → A
clash b t f = absurd (true≢false (sym t ∙ f))

good_key : (table : Table) (bound : Option (List Value)) → bound_fits table.key bound ≡ true → ¬ (IsBadKey table bound)
good_key table None fits bad = bad
good_key table (Some key) fits bad = bad (sym (key_test table.key key) ∙ fits)

bad_key : (table : Table) (bound : Option (List Value)) → bound_fits table.key bound ≡ false → IsBadKey table bound
bad_key table None fits = absurd (true≢false fits)
bad_key table (Some key) fits = λ typed. clash (key_fits table.key key) (key_test table.key key ∙ typed) fits

both_bad : (a b : Bool) → (a && b) ≡ false → (a ≡ false) ⊎ (b ≡ false)
both_bad true b e = inr e
both_bad false b e = inl refl

both_good : (a b : Bool) → (a && b) ≡ true → (a ≡ true) × (b ≡ true)
both_good true b e = (refl, e)
both_good false b e = absurd (true≢false (sym e))

module _ (v : Version) (query : Query) (range : KeyRange) where
  table_fits : (table : Table) → table_at v query.table ≡ Some table → range_fits v query.table range ≡ (bound_fits table.key range.after && bound_fits table.key range.before)
  table_fits table known = ap (λ o. fits_in (option_map (λ (t : Table). t.key) o) range) known

  bad_range : IsSound v query → range_fits v query.table range ≡ false → IsBadRange v query range
  bad_range sound fits =
      let table = sound.table in (
        table,
        sound.known,
        elim (both_bad (bound_fits table.key range.after) (bound_fits table.key range.before) (sym (table_fits table sound.known) ∙ fits)) [
          | inl e ↦ inl (bad_key table range.after e)
          | inr e ↦ inr (bad_key table range.before e)
        ],
      )

  good_range : range_fits v query.table range ≡ true → ¬ (IsBadRange v query range)
  good_range fits (table, known, bad) =
      let g = both_good (bound_fits table.key range.after) (bound_fits table.key range.before) (sym (table_fits table known) ∙ fits) in
      elim bad [ inl b ↦ good_key table range.after g.0 b | inr b ↦ good_key table range.before g.1 b ]

  -- ---- refusals

  pub clear_asked : IsSound v query → range_fits v query.table range ≡ true → IsClear (AskedCondition v query range)
  clear_asked sound fits NoTable c = sound_clear v query sound NoTable c
  clear_asked sound fits (NotPublic column) c = sound_clear v query sound (NotPublic column) c
  clear_asked sound fits WrongType c = elim c [ inl r ↦ sound_clear v query sound WrongType r | inr r ↦ good_range fits r ]
  clear_asked sound fits Memory c = c

  pub memory_asked : IsSound v query → range_fits v query.table range ≡ true → IsRefusal rank (AskedCondition v query range) Memory Memory
  memory_asked sound fits = (inl refl, λ other _. clear_asked sound fits other)

  wrong_lower : IsSound v query → (other : QueryFault) → rank other < 3 → ¬ (AskedCondition v query range other)
  wrong_lower sound NoTable lt c = sound_clear v query sound NoTable c
  wrong_lower sound (NotPublic column) lt c = sound_clear v query sound (NotPublic column) c
  wrong_lower sound WrongType lt c = absurd (omega (arith, lt))
  wrong_lower sound Memory lt c = c

  pub wrong_asked : IsSound v query → range_fits v query.table range ≡ false → IsRefusal rank (AskedCondition v query range) Memory WrongType
  wrong_asked sound fits = (inr (inr (bad_range sound fits)), wrong_lower sound)

  asked_of : (fault : QueryFault) → rank fault < 4 → IsRefused v query fault → AskedCondition v query range fault
  asked_of NoTable lt is = is
  asked_of (NotPublic column) lt is = is
  asked_of WrongType lt is = inl is
  asked_of Memory lt is = absurd (omega (arith, lt))

  other_is : (fault other : QueryFault) → rank fault < 4 → IsRefused v query fault → rank other < rank fault → ¬ (AskedCondition v query range other)
  other_is fault NoTable few is lt c = absurd (let same : rank fault ≡ 1 = ap rank (only_one v query fault NoTable is c) in omega (arith, same, lt))
  other_is fault (NotPublic column) few is lt c = absurd (let same : rank fault ≡ 2 = ap rank (only_one v query fault (NotPublic column) is c) in omega (arith, same, lt))
  other_is fault WrongType few is lt c = absurd (omega (arith, few, lt))
  other_is fault Memory few is lt c = c

  pub refused_asked : (fault : QueryFault) → rank fault < 4 → IsRefused v query fault → IsRefusal rank (AskedCondition v query range) Memory fault
  refused_asked fault few is = (inr (asked_of fault few is), λ other. other_is fault other few is)

  -- ---- what a query of nothing says, with the range

  no_memory : (table : Table) (part : Part) → ¬ (PartFault v query.table table part Memory)
  no_memory table (Named column) h = h
  no_memory table (Where (Key key)) h = h
  no_memory table (Where (Equal column value)) h = h
  no_memory table (Where (Between column low high)) h = h

  never_memory : ¬ (IsRefused v query Memory)
  never_memory (table, known, (before, after, part, all, is, clear)) = no_memory table part is.0

  abbrev Says : QueryFault → Type 0
  Says fault = ((fault ≡ Memory) × IsSound v query) ⊎ IsRefused v query fault

  refusal_of : (fault : QueryFault) → rank fault < 4 → Says fault → IsRefusal rank (AskedCondition v query range) Memory fault
  refusal_of fault few (inl m) = absurd (let four : rank fault ≡ 4 = ap rank m.0 in omega (arith, few, four))
  refusal_of fault few (inr is) = refused_asked fault few is

  sound_of : Says Memory → IsSound v query
  sound_of (inl m) = m.1
  sound_of (inr is) = absurd (never_memory is)

  abbrev Asked : Type 0
  Asked = Result (Unit {0}) QueryFault

  pub refused_with : (asked : Asked) (fits : Bool) → range_fits v query.table range ≡ fits → IfErr asked Says → OnOk asked (IsSound v query) → IfErr (with_range asked fits) (λ fault. IsRefusal rank (AskedCondition v query range) Memory fault)
  refused_with (Ok u) true f r s = tt
  refused_with (Ok u) false f r s = wrong_asked s f
  refused_with (Err NoTable) true f r s = refusal_of NoTable (omega arith) r
  refused_with (Err (NotPublic column)) true f r s = refusal_of (NotPublic column) (omega arith) r
  refused_with (Err WrongType) true f r s = refusal_of WrongType (omega arith) r
  refused_with (Err Memory) true f r s = memory_asked (sound_of r) f
  refused_with (Err NoTable) false f r s = refusal_of NoTable (omega arith) r
  refused_with (Err (NotPublic column)) false f r s = refusal_of (NotPublic column) (omega arith) r
  refused_with (Err WrongType) false f r s = refusal_of WrongType (omega arith) r
  refused_with (Err Memory) false f r s = wrong_asked (sound_of r) f

  pub clear_with : (asked : Asked) (fits : Bool) → range_fits v query.table range ≡ fits → OnOk asked (IsSound v query) → OnOk (with_range asked fits) (IsClear (AskedCondition v query range))
  clear_with (Ok u) true f s = clear_asked s f
  clear_with (Ok u) false f s = tt
  clear_with (Err fault) true f s = tt
  clear_with (Err NoTable) false f s = tt
  clear_with (Err (NotPublic column)) false f s = tt
  clear_with (Err WrongType) false f s = tt
  clear_with (Err Memory) false f s = tt

  pub sound_with : (asked : Asked) (fits : Bool) → OnOk asked (IsSound v query) → OnOk (with_range asked fits) (IsSound v query)
  sound_with (Ok u) true s = s
  sound_with (Ok u) false s = tt
  sound_with (Err fault) true s = tt
  sound_with (Err NoTable) false s = tt
  sound_with (Err (NotPublic column)) false s = tt
  sound_with (Err WrongType) false s = tt
  sound_with (Err Memory) false s = tt

  -- ---- the limit

  module _ (limit : ℕ) where
    pub bad_limit : IsBadLimit limit → IsRefusal page_rank (PageCondition v query range limit) (Faulty Memory) BadLimit
    bad_limit bad = (inr bad, λ other lt. absurd (omega (arith, lt)))

    page_lower : ¬ (IsBadLimit limit) → (fault : QueryFault) → ((other : QueryFault) → rank other < rank fault → ¬ (AskedCondition v query range other)) → (other : PageFault) → page_rank other < rank fault → ¬ (PageCondition v query range limit other)
    page_lower good fault lower BadLimit lt c = good c
    page_lower good fault lower (Faulty other) lt c = lower other lt c

    pub refused_page : ¬ (IsBadLimit limit) → (fault : QueryFault) → IsRefusal rank (AskedCondition v query range) Memory fault → IsRefusal page_rank (PageCondition v query range limit) (Faulty Memory) (Faulty fault)
    refused_page good fault is = (elim is.0 [ inl same ↦ inl (ap Faulty same) | inr c ↦ inr c ], page_lower good fault is.1)

    pub clear_page : ¬ (IsBadLimit limit) → IsClear (AskedCondition v query range) → IsClear (PageCondition v query range limit)
    clear_page good clear BadLimit c = good c
    clear_page good clear (Faulty fault) c = clear fault c
