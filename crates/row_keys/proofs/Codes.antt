-- The codes of a row's keys, and of texts without a 0.
use Rattle.std.proofs.Common.{◌≡◌, ◌∙◌, ◌<◌, ◌≤◌, ◌+◌, ◌-◌, ◌==◌, ◌&&◌, ◌++◌, append_assoc, ℕ, zero, suc, Option, Some, None, Bool, true, false, not, List, [], ◌∷◌, length, get_or, take, drop, if◌then◌else◌, refl, sym, ap, ap₂, subst, arith}
use Rattle.std.proofs.lemmas.Bool.Decides.{nat_tests}
use Rattle.std.proofs.lemmas.List.{length-append, take-append-drop, drop_all}
use Rattle.std.proofs.Math.Seq.{take-append_seam}
use lib.Seq.{drop-append_seam}
use Rattle.std.specs.Int.{w32, to_be_bytes}
use Rattle.std.specs.List.{list_all, flat_map}
use Rattle.keycode.specs.declared.value.Value.{Value}
use Rattle.keycode.specs.Code.{codes_of, escape, escaped}
use Rattle.row_map.specs.Keys.{row_code}
use Rattle.row_map.specs.Rows.{Bytes}
use Rattle.row_keys.specs.inner.After.{IsAfter}
use Rattle.std.specs.Bool.{Decides}

-- all of a row's key but the number at its end
abbrev prefix_of : ℕ → List Value → Bytes
prefix_of table primary = 82 ∷ to_be_bytes w32 table ++ codes_of primary

row_code_ends : (table : ℕ) (primary : List Value) (number : ℕ) → row_code table primary number ≡ prefix_of table primary ++ to_be_bytes w32 number
unfolding row_code
row_code_ends table primary number = refl

none_some : {X : Type 0} {x : X} → None ≡ Some x → ⊥
none_some e = absurd (let y : None ≡ Some _ = e in cc)

some_injective : {x y : List ℕ} → Some x ≡ Some y → x ≡ y
some_injective e = cc

pub escape_zero : (byte : ℕ) → byte ≡ 0 → escape byte ≡ 0 ∷ 255 ∷ []
escape_zero byte is = ap escape is

pub escape_other : (byte : ℕ) → ¬ (byte ≡ 0) → escape byte ≡ byte ∷ []
escape_other zero other = absurd (other refl)
escape_other (suc b) other = ap (λ (z : Bool). if z then 0 ∷ 255 ∷ [] else suc b ∷ []) (above_zero b)
  where
    above_zero : (n : ℕ) → (suc n == 0) ≡ false
    above_zero n = grind (arith, nat_tests)

-- a text without a 0 is written as it is
pub plain_text : (text : List ℕ) → list_all (λ (b : ℕ). not (b == 0)) text ≡ true → escaped text ≡ text
plain_text [] all = refl
plain_text (b ∷ text) all = by (plain_text text) (b == 0) refl all
  where
    by : (list_all (λ (x : ℕ). not (x == 0)) text ≡ true → escaped text ≡ text) → (z : Bool) → (b == 0) ≡ z → (not (b == 0) && list_all (λ (x : ℕ). not (x == 0)) text) ≡ true → escaped (b ∷ text) ≡ b ∷ text
    by more true is all = absurd (let x : false ≡ true = sym (ap (λ z. not z && list_all (λ (x : ℕ). not (x == 0)) text) is) ∙ all in cc)
    by more false is all = ap (λ (z : Bool). (if z then 0 ∷ 255 ∷ [] else b ∷ []) ++ escaped text) is ∙ ap (λ (l : List ℕ). b ∷ l) (more (sym (ap (λ z. not z && list_all (λ (x : ℕ). not (x == 0)) text) is) ∙ all))

-- ---- what follows a prefix

-- nothing follows a prefix that bytes are too short for, or do not begin with
pub too_short : (prefix bytes : List ℕ) → length bytes < length prefix → IsAfter prefix bytes None
too_short prefix bytes short rest = (λ e. absurd (none_some e), λ is. absurd (omega (arith, short, ap length is, length-append prefix rest)))

pub other_start : (prefix bytes : List ℕ) → ¬ (take (length prefix) bytes ≡ prefix) → IsAfter prefix bytes None
other_start prefix bytes other rest = (λ e. absurd (none_some e), λ is. absurd (other (ap (take (length prefix)) is ∙ take-append_seam prefix rest)))

pub same_start : (prefix bytes : List ℕ) → take (length prefix) bytes ≡ prefix → IsAfter prefix bytes (Some (drop (length prefix) bytes))
same_start prefix bytes same rest = (
  λ e. sym (take-append-drop (length prefix) bytes) ∙ ap₂ (λ (a b : List ℕ). a ++ b) same (some_injective e),
  λ is. ap Some (ap (drop (length prefix)) is ∙ drop-append_seam prefix rest),
)

-- one prefix after another
pub then_more : (one other bytes middle : List ℕ) (found : Option (List ℕ)) → IsAfter one bytes (Some middle) → IsAfter other middle found → IsAfter (one ++ other) bytes found
then_more one other bytes middle found first second rest = (
  λ e. (first middle).0 refl ∙ ap (λ (l : List ℕ). one ++ l) ((second rest).0 e) ∙ sym (append_assoc one other rest),
  λ is. (second rest).1 (some_injective ((first (other ++ rest)).1 (is ∙ append_assoc one other rest))),
)

pub then_none : (one other bytes : List ℕ) → IsAfter one bytes None → IsAfter (one ++ other) bytes None
then_none one other bytes first rest = (λ e. absurd (none_some e), λ is. absurd (none_some ((first (other ++ rest)).1 (is ∙ append_assoc one other rest))))

-- ---- prefixes of several parts

module _ {X : Type 0} (f : X → List ℕ) where
  flat_next : (xs : List X) (i : ℕ) (x : X) → i < length xs → flat_map f (drop i xs) ≡ f (get_or xs i x) ++ flat_map f (drop (i + 1) xs)
  flat_next [] i x lt = absurd (omega (arith, lt))
  flat_next (y ∷ xs) zero x lt = refl
  flat_next (y ∷ xs) (suc i) x lt =
      let more : suc (i + 1) ≡ suc i + 1 = omega arith in
      flat_next xs i x (omega (arith, lt)) ∙ ap (λ n. f (get_or xs i x) ++ flat_map f (drop n (y ∷ xs))) more

  module _ (xs : List X) (bytes left : List ℕ) (i : ℕ) (so_far : (found : Option (List ℕ)) → IsAfter (flat_map f (drop i xs)) left found → IsAfter (flat_map f xs) bytes found) where
    pub next_part : (x : X) (more : List ℕ) → i < length xs → IsAfter (f (get_or xs i x)) left (Some more) → (found : Option (List ℕ)) → IsAfter (flat_map f (drop (i + 1) xs)) more found → IsAfter (flat_map f xs) bytes found
    next_part x more lt one found rest =
        so_far found (subst (λ (l : List ℕ). IsAfter l left found) (sym (flat_next xs i x lt)) (then_more (f (get_or xs i x)) (flat_map f (drop (i + 1) xs)) left more found one rest))

    pub no_part : (x : X) → i < length xs → IsAfter (f (get_or xs i x)) left None → IsAfter (flat_map f xs) bytes None
    no_part x lt one = so_far None (subst (λ (l : List ℕ). IsAfter l left None) (sym (flat_next xs i x lt)) (then_none (f (get_or xs i x)) (flat_map f (drop (i + 1) xs)) left one))

    pub all_parts : length xs ≤ i → IsAfter (flat_map f xs) bytes (Some left)
    all_parts end = so_far (Some left) (subst (λ (l : List X). IsAfter (flat_map f l) left (Some left)) (sym (drop_all i xs end)) (λ rest. (λ e. some_injective e, λ is. ap Some is)))

-- the code of a text
pub whole_text : (bytes content end : List ℕ) (coded : List ℕ) (found : Option (List ℕ)) → IsAfter (3 ∷ []) bytes (Some content) → IsAfter coded content (Some end) → IsAfter (0 ∷ 1 ∷ []) end found → IsAfter (3 ∷ coded ++ 0 ∷ 1 ∷ []) bytes found
whole_text bytes content end coded found first second third = then_more (3 ∷ []) (coded ++ 0 ∷ 1 ∷ []) bytes content found first (then_more coded (0 ∷ 1 ∷ []) content end found second third)

-- the parts of a key
row_parts : (table : ℕ) (primary : List Value) → row_code table primary 0 ≡ (82 ∷ to_be_bytes w32 table) ++ codes_of primary ++ 0 ∷ 0 ∷ 0 ∷ 0 ∷ []
unfolding row_code
row_parts table primary = refl

pub no_table : (key : Bytes) (table : ℕ) (primary : List Value) → IsAfter (82 ∷ to_be_bytes w32 table) key None → Decides false (key ≡ row_code table primary 0)
no_table key table primary first = (
  λ e. absurd (let x : false ≡ true = e in cc),
  λ is. absurd (none_some ((first (codes_of primary ++ 0 ∷ 0 ∷ 0 ∷ 0 ∷ [])).1 (is ∙ row_parts table primary))),
)

pub no_values : (key values : Bytes) (table : ℕ) (primary : List Value) → IsAfter (82 ∷ to_be_bytes w32 table) key (Some values) → IsAfter (codes_of primary) values None → Decides false (key ≡ row_code table primary 0)
no_values key values table primary first second = (
  λ e. absurd (let x : false ≡ true = e in cc),
  λ is. absurd (none_some ((second (0 ∷ 0 ∷ 0 ∷ 0 ∷ [])).1 (some_injective ((first (codes_of primary ++ 0 ∷ 0 ∷ 0 ∷ 0 ∷ [])).1 (is ∙ row_parts table primary))))),
)

pub whole_key : (key values end : Bytes) (table : ℕ) (primary : List Value) (reported : Bool) → IsAfter (82 ∷ to_be_bytes w32 table) key (Some values) → IsAfter (codes_of primary) values (Some end) → Decides reported (end ≡ 0 ∷ 0 ∷ 0 ∷ 0 ∷ [])
    → Decides reported (key ≡ row_code table primary 0)
whole_key key values end table primary reported first second last = (
  λ yes. (first values).0 refl ∙ ap (λ (l : Bytes). (82 ∷ to_be_bytes w32 table) ++ l) ((second end).0 refl ∙ ap (λ (l : Bytes). codes_of primary ++ l) (last.0 yes)) ∙ sym (row_parts table primary),
  λ is. last.1 (some_injective ((second (0 ∷ 0 ∷ 0 ∷ 0 ∷ [])).1 (some_injective ((first (codes_of primary ++ 0 ∷ 0 ∷ 0 ∷ 0 ∷ [])).1 (is ∙ row_parts table primary))))),
)

-- all of a row's key but the number at its end
pub front_is : (exists : Bytes) (table : ℕ) (primary : List Value) → exists ≡ row_code table primary 0 → take (length exists - 4) exists ≡ prefix_of table primary
front_is exists table primary is =
    let ends : exists ≡ prefix_of table primary ++ to_be_bytes w32 0 = is ∙ row_code_ends table primary 0 in
    let place_is : length exists - 4 ≡ length (prefix_of table primary) = omega (arith, ap length ends, length-append (prefix_of table primary) (to_be_bytes w32 0)) in
    ap (take (length exists - 4)) ends ∙ ap (λ n. take n (prefix_of table primary ++ to_be_bytes w32 0)) place_is ∙ take-append_seam (prefix_of table primary) (to_be_bytes w32 0)

-- another number in the place of the last four bytes
pub numbered : (key exists : Bytes) (number table : ℕ) (primary : List Value) → key ≡ take (length exists - 4) exists ++ to_be_bytes w32 number → exists ≡ row_code table primary 0 → key ≡ row_code table primary number
numbered key exists number table primary made is = made ∙ ap (λ (l : Bytes). l ++ to_be_bytes w32 number) (front_is exists table primary is) ∙ sym (row_code_ends table primary number)

pub no_front : (key exists front : Bytes) (number table : ℕ) (primary : List Value) → exists ≡ row_code table primary 0 → front ≡ take (length exists - 4) exists → IsAfter front key None → Decides false (key ≡ row_code table primary number)
no_front key exists front number table primary is at first = (
  λ e. absurd (let x : false ≡ true = e in cc),
  λ same. absurd (none_some ((first (to_be_bytes w32 number)).1 (same ∙ row_code_ends table primary number ∙ ap (λ (l : Bytes). l ++ to_be_bytes w32 number) (sym (at ∙ front_is exists table primary is))))),
)

pub column_key : (key exists front end : Bytes) (number table : ℕ) (primary : List Value) (reported : Bool) → exists ≡ row_code table primary 0 → front ≡ take (length exists - 4) exists → IsAfter front key (Some end) → Decides reported (end ≡ to_be_bytes w32 number)
    → Decides reported (key ≡ row_code table primary number)
column_key key exists front end number table primary reported is at first last =
    let parts : row_code table primary number ≡ front ++ to_be_bytes w32 number = row_code_ends table primary number ∙ ap (λ (l : Bytes). l ++ to_be_bytes w32 number) (sym (at ∙ front_is exists table primary is)) in (
      λ yes. (first end).0 refl ∙ ap (λ (l : Bytes). front ++ l) (last.0 yes) ∙ sym parts,
      λ same. last.1 (some_injective ((first (to_be_bytes w32 number)).1 (same ∙ parts))),
    )
