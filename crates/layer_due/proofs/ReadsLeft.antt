-- The reads that are left of one reorganisation.
use Rattle.std.proofs.Common.{◌≡◌, ◌≢◌, ℕ, zero, suc, ◌+◌, ◌*◌, ◌<◌, ◌≤◌, Bool, true, false, cond, List, [], ◌∷◌, Option, Some, None, refl, sym, ap, subst, ◌∙◌, arith, Contains, length, not, slice_get, true≢false}
use Rattle.std.proofs.lemmas.Nat.{mul-le}
use Rattle.std.specs.Ordering.{is_lt, is_le, is_eq}
use Rattle.std.specs.declared.cmp.Ordering.TheVariants.{Less}
use Rattle.byte_map.proofs.Order.{same_itself}
use Rattle.keycode.specs.Order.{bytes_cmp}
use Rattle.row_map.specs.Rows.{Bytes}
use Rattle.reorganise.proofs.Order.{le, le_trans, lt_is}
use Rattle.drafts.specs.declared.record.Reorg.{Reorg}
use Rattle.drafts.proofs.Opens.{none_some, some_one}
use Rattle.layer_due.specs.Records.{Cursor, cursor_in, is_at, first_open}
use Rattle.layer_due.specs.Left.{ahead, piece_left, pieces_left, reorg_left}
use Rattle.layer_due.proofs.Lowered.{fewer}
use Rattle.layer_due.proofs.Sums.{few_pass}

-- ---- numbers

onward : (a b c : ℕ) → a ≤ b → b ≤ c → a ≤ c
onward a b c p q = omega (arith, p, q)

less_by : (a b c : ℕ) → a ≤ 1 + b → b < c → a < 1 + c
less_by a b c p q = omega (arith, p, q)

one_more : (p q n m : ℕ) → p ≤ m → q ≤ n * m → p + q ≤ suc n * m
one_more p q n m first rest = omega (arith, first, rest)

module _ (keys : List Bytes) where
  -- ---- one piece

  ahead_few : (o : Option Bytes) → ahead keys o ≤ length keys
  ahead_few None = omega arith
  ahead_few (Some cursor) = few_pass (λ key. is_lt (bytes_cmp cursor key)) keys

  open_few : (b : Bool) (n : ℕ) → cond b 0 (1 + n) ≤ 1 + n
  open_few true n = omega arith
  open_few false n = omega arith

  piece_few : (o : Option Bytes) (high : Bytes) → piece_left keys o high ≤ 1 + length keys
  piece_few o high = onward (piece_left keys o high) (1 + ahead keys o) (1 + length keys) (open_few (is_at o high) (ahead keys o)) (let few = ahead_few o in omega (arith, few))

  -- a cursor that comes on has no more keys ahead
  passes_more : (low to key : Bytes) → is_le (bytes_cmp low to) ≡ true → is_lt (bytes_cmp to key) ≡ true → is_lt (bytes_cmp low key) ≡ true
  passes_more low to key on above = not_le (le key low) refl
    where
      not_le : (b : Bool) → le key low ≡ b → is_lt (bytes_cmp low key) ≡ true
      not_le false e = lt_is low key ∙ ap not e
      not_le true e = absurd (true≢false (sym above ∙ lt_is to key ∙ ap not (le_trans key low to e on)))

  -- one that passes a key has fewer
  ahead_falls : (low to key : Bytes) → is_le (bytes_cmp low to) ≡ true → Contains keys key → bytes_cmp low key ≡ Less → is_le (bytes_cmp key to) ≡ true → ahead keys (Some to) < ahead keys (Some low)
  ahead_falls low to key on there above passed =
      fewer (λ k. is_lt (bytes_cmp to k)) (λ k. is_lt (bytes_cmp low k)) (λ k t. passes_more low to k on t) keys key there
      (lt_is to key ∙ ap not passed) (ap is_lt above)

  at_itself : (high : Bytes) → is_at (Some high) high ≡ true
  at_itself high = ap is_eq (same_itself high)

  -- a read that comes to the end leaves nothing
  pub piece_ends : (low : Option Bytes) (high : Bytes) → is_at low high ≡ false → piece_left keys (Some high) high < piece_left keys low high
  piece_ends low high open_so =
      subst (λ b. cond b 0 (1 + ahead keys (Some high)) < piece_left keys low high) (sym (at_itself high))
      (subst (λ b. 0 < cond b 0 (1 + ahead keys low)) (sym open_so) (omega arith))

  -- one that passes a key leaves less
  pub piece_passes : (low to high key : Bytes) → is_at (Some low) high ≡ false → is_le (bytes_cmp low to) ≡ true → Contains keys key → bytes_cmp low key ≡ Less → is_le (bytes_cmp key to) ≡ true
      → piece_left keys (Some to) high < piece_left keys (Some low) high
  piece_passes low to high key open_so on there above passed =
      subst (λ b. piece_left keys (Some to) high < cond b 0 (1 + ahead keys (Some low))) (sym open_so)
      (less_by (piece_left keys (Some to) high) (ahead keys (Some to)) (ahead keys (Some low)) (open_few (is_at (Some to) high) (ahead keys (Some to))) (ahead_falls low to key on there above passed))

  -- ---- all pieces

  pub pieces_few : (cursors : List Cursor) (number piece : ℕ) (bounds : List (Bytes × Bytes)) → pieces_left keys cursors number piece bounds ≤ length bounds * (1 + length keys)
  pieces_few cursors number piece [] = omega arith
  pieces_few cursors number piece (bound ∷ bounds) =
      one_more (piece_left keys (cursor_in cursors number piece) bound.1) (pieces_left keys cursors number (piece + 1) bounds) (length bounds) (1 + length keys)
      (piece_few (cursor_in cursors number piece) bound.1) (pieces_few cursors number (piece + 1) bounds)

  pub pieces_same : (new old : List Cursor) (number piece : ℕ) (bounds : List (Bytes × Bytes)) → ((p : ℕ) → piece ≤ p → cursor_in new number p ≡ cursor_in old number p)
      → pieces_left keys new number piece bounds ≡ pieces_left keys old number piece bounds
  pieces_same new old number piece [] same = refl
  pieces_same new old number piece (bound ∷ bounds) same =
      ap (λ (o : Option Bytes). piece_left keys o bound.1 + pieces_left keys new number (piece + 1) bounds) (same piece (omega arith))
      ∙ ap (λ (n : ℕ). piece_left keys (cursor_in old number piece) bound.1 + n) (pieces_same new old number (piece + 1) bounds (λ p le. same p (omega (arith, le))))

  -- one piece has less left, and the others are as they were
  pub pieces_fall : (new old : List Cursor) (number piece j at : ℕ) (bounds : List (Bytes × Bytes)) (bound : Bytes × Bytes) → at ≡ piece + j → slice_get bounds j ≡ Some bound
      → ((p : ℕ) → p ≢ at → cursor_in new number p ≡ cursor_in old number p) → piece_left keys (cursor_in new number at) bound.1 < piece_left keys (cursor_in old number at) bound.1
      → pieces_left keys new number piece bounds < pieces_left keys old number piece bounds
  pieces_fall new old number piece j at [] bound is here others fall = none_some here
  pieces_fall new old number piece zero at (first ∷ bounds) bound is here others fall =
      let at_piece : at ≡ piece = omega (arith, is) in
      let head : piece_left keys (cursor_in new number piece) first.1 < piece_left keys (cursor_in old number piece) first.1
      = subst (λ (b : Bytes × Bytes). piece_left keys (cursor_in new number piece) b.1 < piece_left keys (cursor_in old number piece) b.1) (sym (some_one here))
      (subst (λ (p : ℕ). piece_left keys (cursor_in new number p) bound.1 < piece_left keys (cursor_in old number p) bound.1) at_piece fall) in
      let rest = pieces_same new old number (piece + 1) bounds (λ p le. others p (λ e. absurd (omega (arith, e, at_piece, le)))) in
      omega (arith, head, rest)
  pieces_fall new old number piece (suc j) at (first ∷ bounds) bound is here others fall =
      let rest = pieces_fall new old number (piece + 1) j at bounds bound (omega (arith, is)) here others fall in
      let head = ap (λ (o : Option Bytes). piece_left keys o first.1) (others piece (λ e. absurd (omega (arith, e, is)))) in
      omega (arith, head, rest)

  pub reorg_same : (new old : List Cursor) (number : ℕ) (found : Option Reorg) → ((p : ℕ) → cursor_in new number p ≡ cursor_in old number p) → reorg_left keys new number found ≡ reorg_left keys old number found
  reorg_same new old number None same = refl
  reorg_same new old number (Some reorg) same = pieces_same new old number 0 reorg.bounds (λ p le. same p)

  pub reorg_few : (cursors : List Cursor) (number : ℕ) (reorg : Reorg) → length reorg.bounds ≤ 64 → reorg_left keys cursors number (Some reorg) ≤ 64 * (1 + length keys)
  reorg_few cursors number reorg few =
      let all = pieces_few cursors number 0 reorg.bounds in
      let most = mul-le (length reorg.bounds) (1 + length keys) 64 (1 + length keys) few (omega arith) in
      omega (arith, all, most)

is_after : (cursors : List Cursor) (number piece p : ℕ) (bounds : List (Bytes × Bytes)) → first_open cursors number piece bounds ≡ Some p → piece ≤ p
is_after cursors number piece p [] e = none_some e
is_after cursors number piece p (bound ∷ bounds) e =
    elim (is_at (cursor_in cursors number piece) bound.1) as (λ b. cond b (first_open cursors number (piece + 1) bounds) (Some piece) ≡ Some p → piece ≤ p) [
      | true ↦ λ rest. let below = is_after cursors number (piece + 1) p bounds rest in omega (arith, below)
      | false ↦ λ here. let is : piece ≡ p = some_one here in omega (arith, is)
    ] e

-- the first piece that is open is not at its end
pub first_is_open : (cursors : List Cursor) (number piece p j : ℕ) (bounds : List (Bytes × Bytes)) (bound : Bytes × Bytes) → first_open cursors number piece bounds ≡ Some p → p ≡ piece + j → slice_get bounds j ≡ Some bound
    → is_at (cursor_in cursors number p) bound.1 ≡ false
first_is_open cursors number piece p j [] bound first is here = none_some here
first_is_open cursors number piece p zero (head ∷ bounds) bound first is here =
    elim (is_at (cursor_in cursors number piece) head.1) as (λ b. is_at (cursor_in cursors number piece) head.1 ≡ b → cond b (first_open cursors number (piece + 1) bounds) (Some piece) ≡ Some p → is_at (cursor_in cursors number p) bound.1 ≡ false) [
      | true ↦ λ ended rest. let after = is_after cursors number (piece + 1) p bounds rest in absurd (omega (arith, is, after))
      | false ↦ λ open_so found.
          let at : piece ≡ p = some_one found in
          subst (λ (b : Bytes × Bytes). is_at (cursor_in cursors number p) b.1 ≡ false) (some_one here)
          (subst (λ (q : ℕ). is_at (cursor_in cursors number q) head.1 ≡ false) at open_so)
    ] refl first
first_is_open cursors number piece p (suc j) (head ∷ bounds) bound first is here =
    elim (is_at (cursor_in cursors number piece) head.1) as (λ b. cond b (first_open cursors number (piece + 1) bounds) (Some piece) ≡ Some p → is_at (cursor_in cursors number p) bound.1 ≡ false) [
      | true ↦ λ rest. first_is_open cursors number (piece + 1) p j bounds bound rest (omega (arith, is)) here
      | false ↦ λ found. let at : piece ≡ p = some_one found in absurd (omega (arith, is, at))
    ] first
