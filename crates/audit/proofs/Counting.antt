-- The pairs of indexes that have a reason are as many as rows and indexes that have their pair.
use Rattle.std.proofs.Common.{◌≡◌, ◌≢◌, ℕ, ◌+◌, ◌==◌, ◌&&◌, ◌⊎◌, not, Bool, true, false, cond, List, Option, Some, None, refl, sym, ap, ◌∙◌, inl, inr, add-zero, true≢false}
use Rattle.std.specs.Prelude.{bytes_eq, sum_by, count_by}
use Rattle.std.specs.Cmp.{nat_cmp_total}
use Rattle.std.specs.FinMap as map
use Rattle.std.specs.FinMap.{nat_cmp-IsAntisymmetric}
use Rattle.std.specs.List.{AllByRecursion}
use Rattle.std.specs.Ordering.{nat_cmp}
use Rattle.std.proofs.lemmas.Slice.Eq.{bytes_eq-Decides}
use Rattle.byte_map.proofs.Written.{same_or_apart}
use Rattle.keycode.specs.Order.{bytes_cmp}
use Rattle.keycode.proofs.Orders.{bytes_cmp_total, bytes_cmp-IsAntisymmetric}
use Rattle.row_map.specs.declared.key.KeyOf.{KeyOf}
use Rattle.row_map.specs.declared.key.KeyOf.TheVariants.{Exists, Column, Index as IndexKey}
use Rattle.row_map.specs.Rows.{Bytes, Pairs}
use Rattle.row_map.proofs.Entries.{each_entry}
use Rattle.schema_version.specs.declared.element.ElementDef.{ElementDef}
use Rattle.schema_version.specs.Sound.{IsSoundVersion}
use Rattle.schema_version.specs.Version.{Version, element_at, live, is_index}
use Rattle.audit.specs.Audit.{Pair, given, is_same_pair, reason_by, has_reason}
use Rattle.audit.specs.Encoded.{key_read, row_at}
use Rattle.audit.specs.Meaning.{AreByteStrings}
use Rattle.audit.specs.inner.RowCounts.{holds, is_present, gives, given_beside, has_plain_reason}
use Rattle.audit.proofs.Hits.{hit_by, index_reason, hits, has_index_reason, Hit, hit_says, Owner, owner_of, one_element, one_row}
use Rattle.audit.proofs.Sums.{sum_same, sum_alike, sum_nothing, sum_added, sum_swap, sum_each, value_at, sum_at}
use Rattle.audit.proofs.Zero.{sum_zero, all_values}

abbrev one_if : Bool → ℕ
one_if b = cond b 1 0

same_true : (a b : Bool) → (a ≡ true → b ≡ true) → (b ≡ true → a ≡ true) → a ≡ b
same_true true b f g = sym (f refl)
same_true false true f g = g refl
same_true false false f g = refl

equal_either_way : (x y : Bytes) → bytes_eq x y ≡ bytes_eq y x
equal_either_way x y = same_true (bytes_eq x y) (bytes_eq y x)
    (λ e. (bytes_eq-Decides y x).1 (sym ((bytes_eq-Decides x y).0 e)))
    (λ e. (bytes_eq-Decides x y).1 (sym ((bytes_eq-Decides y x).0 e)))

apart_bytes : (x y : Bytes) → x ≢ y → bytes_eq x y ≡ false
apart_bytes x y ne = elim (bytes_eq x y) as (λ b. bytes_eq x y ≡ b → b ≡ false) [
  | true ↦ λ e. absurd (ne ((bytes_eq-Decides x y).0 e))
  | false ↦ λ e. refl
] refl

-- ---- one row and one index: the pair that it gives is there once or not at all

module _ (pairs : Pairs) where
  -- how often a pair stands in the store
  abbrev same_as : Pair → Pair → ℕ
  same_as own p = one_if (bytes_eq own.0 p.0 && bytes_eq own.1 p.1)

  pair_at : (own : Pair) (o : Option Bytes) → value_at (same_as own) own.0 o ≡ one_if (holds o own.1)
  pair_at own None = refl
  pair_at own (Some w) =
      ap (λ b. one_if (b && bytes_eq own.1 w)) ((bytes_eq-Decides own.0 own.0).1 refl)
      ∙ ap one_if (equal_either_way own.1 w)

  pair_once : (own : Pair) → sum_by (same_as own) (map.entries pairs) ≡ one_if (is_present pairs (Some own))
  pair_once own =
      sum_at bytes_cmp_total bytes_cmp-IsAntisymmetric (same_as own) own.0 pairs
      (each_entry bytes_cmp bytes_cmp_total bytes_cmp-IsAntisymmetric (λ x w. (x ≡ own.0) ⊎ (same_as own (x, w) ≡ 0)) pairs apart)
      ∙ pair_at own (map.get pairs own.0)
    where
      apart : (x w : Bytes) → map.get pairs x ≡ Some w → (x ≡ own.0) ⊎ (same_as own (x, w) ≡ 0)
      apart x w there = elim (same_or_apart bytes_cmp_total bytes_cmp-IsAntisymmetric own.0 x) [
        | inl s ↦ inl (sym s)
        | inr ne ↦ inr (ap (λ b. one_if (b && bytes_eq own.1 w)) (apart_bytes own.0 x ne))
      ]

  given_once : (b : Bool) (o : Option Pair) → sum_by (λ p. one_if (b && is_same_pair o p)) (map.entries pairs) ≡ one_if (b && is_present pairs o)
  given_once false o = sum_nothing (map.entries pairs)
  given_once true None = sum_nothing (map.entries pairs)
  given_once true (Some own) = pair_once own

  abbrev gives_by : Version → ElementDef → Option KeyOf → Bool
  gives_by version e None = false
  gives_by version e (Some (Exists table primary)) = gives version pairs table (row_at version pairs table primary) e
  gives_by version e (Some (Column table primary number)) = false
  gives_by version e (Some (IndexKey number values)) = false

  hits_once : (version : Version) (e : ElementDef) (o : Option KeyOf) → sum_by (λ p. one_if (hit_by version pairs p e o)) (map.entries pairs) ≡ one_if (gives_by version e o)
  hits_once version e None = sum_nothing (map.entries pairs)
  hits_once version e (Some (Column table primary number)) = sum_nothing (map.entries pairs)
  hits_once version e (Some (IndexKey number values)) = sum_nothing (map.entries pairs)
  hits_once version e (Some (Exists table primary)) = given_once ((e.table == table) && is_index e.kind) (given version e (row_at version pairs table primary))

  given_counted : (version : Version) (o : Option KeyOf) → sum_by (λ e. one_if (gives_by version e o)) (live version) ≡ given_beside version pairs o
  given_counted version None = sum_nothing (live version)
  given_counted version (Some (Column table primary number)) = sum_nothing (live version)
  given_counted version (Some (IndexKey number values)) = sum_nothing (live version)
  given_counted version (Some (Exists table primary)) = refl

-- ---- one pair: one row and one index give it, if it has a reason

module _ (version : Version) (sound : IsSoundVersion version) (pairs : Pairs) (strings : AreByteStrings pairs) where
  abbrev weight : Pair → Pair → ElementDef → ℕ
  weight p q e = one_if (hit_by version pairs p e (key_read q.0))

  abbrev of_row : Pair → Pair → ℕ
  of_row p q = sum_by (weight p q) (live version)

  abbrev known : ElementDef → Type 0
  known e = element_at version e.number ≡ Some e

  all_known : (P : ElementDef → Type 0) → ((e : ElementDef) → known e → P e) → AllByRecursion P (live version)
  all_known P each =
      all_values P (map.entries version.elements)
      (each_entry nat_cmp nat_cmp_total nat_cmp-IsAntisymmetric (λ n e. P e) version.elements (λ n e at. each e (ap (element_at version) (sound.elements n e at).own ∙ at)))

  -- a row of which no index gives the pair
  none_of_row : (p q : Pair) → ((e : ElementDef) → known e → ¬ (hits version sound pairs strings p q e ≡ true)) → of_row p q ≡ 0
  none_of_row p q never = sum_zero (weight p q) (live version) (all_known (λ e. weight p q e ≡ 0) none)
    where
      none : (e : ElementDef) → known e → weight p q e ≡ 0
      none e at = elim (hit_by version pairs p e (key_read q.0)) as (λ b. hit_by version pairs p e (key_read q.0) ≡ b → one_if b ≡ 0) [
        | true ↦ λ is. absurd (never e at is)
        | false ↦ λ is. refl
      ] refl

  all_rows : (P : Pair → Type 0) → ((q : Pair) → map.get pairs q.0 ≡ Some q.1 → P q) → AllByRecursion P (map.entries pairs)
  all_rows P each = each_entry bytes_cmp bytes_cmp_total bytes_cmp-IsAntisymmetric (λ x w. P (x, w)) pairs (λ x w there. each (x, w) there)

  without_reason : (p : Pair) → has_index_reason version sound pairs strings p ≡ false → sum_by (of_row p) (map.entries pairs) ≡ 0
  without_reason p unfounded =
      sum_zero (of_row p) (map.entries pairs)
      (all_rows (λ q. of_row p q ≡ 0) (λ q there. none_of_row p q (λ e at is. true≢false (sym (hit_says version sound pairs strings p q e there at is).reason ∙ unfounded))))

  with_reason : (p : Pair) → Owner version sound pairs strings p → sum_by (of_row p) (map.entries pairs) ≡ 1
  with_reason p owner =
      sum_at bytes_cmp_total bytes_cmp-IsAntisymmetric (of_row p) owner.row.0 pairs (all_rows (λ q. (q.0 ≡ owner.row.0) ⊎ (of_row p q ≡ 0)) other_rows)
      ∙ ap (value_at (of_row p) owner.row.0) owner.there
      ∙ sum_each (λ (e : ℕ × ElementDef). e.1) (weight p owner.row) (map.entries version.elements)
      ∙ sum_at nat_cmp_total nat_cmp-IsAntisymmetric (λ (e : ℕ × ElementDef). weight p owner.row e.1) owner.element.number version.elements
      (each_entry nat_cmp nat_cmp_total nat_cmp-IsAntisymmetric (λ n e. (n ≡ owner.element.number) ⊎ (weight p owner.row e ≡ 0)) version.elements other_elements)
      ∙ ap (value_at (λ (e : ℕ × ElementDef). weight p owner.row e.1) owner.element.number) owner.known
      ∙ ap one_if owner.hit
    where
      own : Hit version sound pairs strings p owner.row owner.element
      own = hit_says version sound pairs strings p owner.row owner.element owner.there owner.known owner.hit

      other_rows : (q : Pair) → map.get pairs q.0 ≡ Some q.1 → (q.0 ≡ owner.row.0) ⊎ (of_row p q ≡ 0)
      other_rows q there = elim (same_or_apart bytes_cmp_total bytes_cmp-IsAntisymmetric q.0 owner.row.0) [
        | inl s ↦ inl s
        | inr ne ↦ inr (none_of_row p q (λ e at is.
            let hit = hit_says version sound pairs strings p q e there at is in
            ne (one_row version sound pairs strings p q owner.row e owner.element (one_element version sound pairs strings p q owner.row e owner.element at owner.known hit own) hit own)))
      ]

      other_elements : (n : ℕ) (e : ElementDef) → element_at version n ≡ Some e → (n ≡ owner.element.number) ⊎ (weight p owner.row e ≡ 0)
      other_elements n e at = elim (hit_by version pairs p e (key_read owner.row.0)) as (λ b. hit_by version pairs p e (key_read owner.row.0) ≡ b → (n ≡ owner.element.number) ⊎ (one_if b ≡ 0)) [
        | true ↦ λ is.
            let number : e.number ≡ n = (sound.elements n e at).own in
            let at_own : known e = ap (element_at version) number ∙ at in
            let hit = hit_says version sound pairs strings p owner.row e owner.there at_own is in
            inl (sym number ∙ ap (λ (d : ElementDef). d.number) (one_element version sound pairs strings p owner.row owner.row e owner.element at_own owner.known hit own))
        | false ↦ λ is. inr refl
      ] refl

  given_to : (p : Pair) → map.get pairs p.0 ≡ Some p.1 → one_if (has_index_reason version sound pairs strings p) ≡ sum_by (of_row p) (map.entries pairs)
  given_to p there = elim (has_index_reason version sound pairs strings p) as (λ b. has_index_reason version sound pairs strings p ≡ b → one_if b ≡ sum_by (of_row p) (map.entries pairs)) [
    | true ↦ λ is. sym (with_reason p (owner_of version sound pairs strings p there is))
    | false ↦ λ is. sym (without_reason p is)
  ] refl

  -- ---- all pairs, counted from either side

  reasons_given : sum_by (λ p. one_if (has_index_reason version sound pairs strings p)) (map.entries pairs) ≡ sum_by (λ q. given_beside version pairs (key_read q.0)) (map.entries pairs)
  reasons_given =
      let es : List Pair = map.entries pairs in
      sum_alike (λ p. one_if (has_index_reason version sound pairs strings p)) (λ p. sum_by (of_row p) es) es (all_rows (λ p. one_if (has_index_reason version sound pairs strings p) ≡ sum_by (of_row p) es) given_to)
      ∙ sum_swap of_row es es
      ∙ sum_same (λ q. sum_by (λ p. of_row p q) es) (λ q. given_beside version pairs (key_read q.0)) by_row es
    where
      by_row : (q : Pair) → sum_by (λ p. of_row p q) (map.entries pairs) ≡ given_beside version pairs (key_read q.0)
      by_row q =
          sum_swap (λ p e. weight p q e) (map.entries pairs) (live version)
          ∙ sum_same (λ e. sum_by (λ p. weight p q e) (map.entries pairs)) (λ e. one_if (gives_by pairs version e (key_read q.0))) (λ e. hits_once pairs version e (key_read q.0)) (live version)
          ∙ given_counted pairs version (key_read q.0)

  parts : (p : Pair) (o : Option KeyOf) → one_if (not (has_plain_reason version pairs o)) ≡ one_if (not (reason_by version pairs p o)) + one_if (index_reason version pairs p o)
  parts p None = refl
  parts p (Some (Exists table primary)) = refl
  parts p (Some (Column table primary number)) = sym (add-zero (one_if (not (has_plain_reason version pairs (Some (Column table primary number))))))
  parts p (Some (IndexKey number values)) = elim (reason_by version pairs p (Some (IndexKey number values))) as (λ b. 1 ≡ one_if (not b) + one_if b) [ true ↦ refl | false ↦ refl ]

  -- the pairs without a plain reason are those without any, and those that rows give indexes
  pub counted_from_rows : count_by (λ p. not (has_plain_reason version pairs (key_read p.0))) (map.entries pairs)
      ≡ count_by (λ p. not (has_reason version pairs p)) (map.entries pairs) + sum_by (λ q. given_beside version pairs (key_read q.0)) (map.entries pairs)
  counted_from_rows =
      let es : List Pair = map.entries pairs in
      sum_same (λ p. one_if (not (has_plain_reason version pairs (key_read p.0)))) (λ p. one_if (not (has_reason version pairs p)) + one_if (has_index_reason version sound pairs strings p)) (λ p. parts p (key_read p.0)) es
      ∙ sum_added (λ p. one_if (not (has_reason version pairs p))) (λ p. one_if (has_index_reason version sound pairs strings p)) es
      ∙ ap (λ (n : ℕ). count_by (λ p. not (has_reason version pairs p)) es + n) reasons_given
