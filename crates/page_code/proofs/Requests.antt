-- The reader of a request for a page.
use Rattle.std.proofs.Common.{◌≡◌, ℕ, List, [], ◌∷◌, ◌++◌, Result, Ok, Err, refl, sym, ap, ◌∙◌, inl, inr, arith, length, cond, eqb, true, false}
use Rattle.std.proofs.lemmas.Bool.{eqb-true}
use Rattle.std.proofs.lemmas.List.{append-nil}
use Rattle.collections.specs.Answers.{GivesOr, FailsOr, ◌>>>=◌}
use Rattle.keycode.proofs.Fields.{IsBytes}
use Rattle.keycode.specs.Valid.{IsStorable}
use Rattle.entry_code.specs.declared.fault.CodeFault.{CodeFault}
use Rattle.entry_code.specs.declared.fault.CodeFault.TheVariants.{Version, Trailing, Malformed, Memory}
use Rattle.entry_code.specs.Code.{u32_code, option_code, key_code, asked_code, query_code}
use Rattle.entry_code.specs.Known.{IsU32, IsList, IsOption, IsQuery}
use Rattle.entry_code.specs.Read.{IsRead}
use Rattle.entry_code.specs.inner.At.{query_at, whole_of}
use Rattle.entry_code.proofs.Asked.{option_reader, query_reader}
use Rattle.entry_code.proofs.Readers.{IsReader, pair_reader, map_reader, list_reader, value_reader, u32_reader}
use Rattle.row_query.specs.declared.query.Query.{Query}
use Rattle.row_page.specs.declared.range.KeyRange.{KeyRange}
use Rattle.page_code.specs.Code.{body_code, IsRequest}
use Rattle.page_code.specs.declared.request.PageRequest.{PageRequest}
use Rattle.page_code.specs.inner.At.{Bounds, head_of, head_at, request_of, request_at}

abbrev head_code : KeyRange × ℕ → List ℕ
head_code head = option_code key_code head.0.after ++ (option_code key_code head.0.before ++ u32_code head.1)

abbrev IsHead : KeyRange × ℕ → Type 0
IsHead head = IsOption (IsList IsStorable) head.0.after × (IsOption (IsList IsStorable) head.0.before × IsU32 head.1)

abbrev bounds_of : KeyRange × ℕ → Bounds
bounds_of head = (head.0.after, (head.0.before, head.1))

head_reader : IsReader IsHead head_code head_at
unfolding head_at
head_reader = map_reader head_of bounds_of (λ _. refl) (λ _. refl) (pair_reader (option_reader (list_reader value_reader)) (pair_reader (option_reader (list_reader value_reader)) u32_reader))

abbrev parts_of : PageRequest → (KeyRange × ℕ) × Query
parts_of request = ((request.range, request.limit), request.query)

pub request_reader : IsReader (IsRequest IsStorable) body_code request_at
request_reader = map_reader request_of parts_of (λ _. refl) (λ _. refl) (pair_reader head_reader query_reader)

-- ---- the query at the end

abbrev done : Query × List ℕ → Result (Query × List ℕ) CodeFault
done x = Ok x

tail : {x y : ℕ} {xs ys : List ℕ} → x ∷ xs ≡ y ∷ ys → xs ≡ ys
tail e = cc

ends : (q : Query) → whole_of (done (q, [])) ≡ Ok q
ends q = refl

follows : (q : Query) (rest : List ℕ) → ¬ (rest ≡ []) → whole_of (done (q, rest)) ≡ Err Trailing
follows q [] some = absurd (some refl)
follows q (b ∷ rest) some = by (eqb (length (b ∷ rest)) 0) refl
  where
    by : (t : _) → eqb (length (b ∷ rest)) 0 ≡ t → cond t (Ok q) (Err Trailing) ≡ Err Trailing
    by true e = absurd (let none : length (b ∷ rest) ≡ 0 = eqb-true (length (b ∷ rest)) 0 e in omega (arith, none))
    by false e = refl

-- what the reader of whole queries says of the version and these bytes, it says of these bytes
pub asked_is : (bytes : List ℕ) → IsBytes bytes → (r : Result Query CodeFault) → IsRead (IsQuery IsStorable) query_code (1 ∷ bytes) r → GivesOr Memory (λ x. x) r (whole_of (query_at bytes))
asked_is bytes fits (Ok q) is =
    ap (λ b. whole_of (query_at b)) (tail is.0 ∙ sym (append-nil (asked_code q))) ∙ ap whole_of (query_reader.again q [] is.1) ∙ ends q
asked_is bytes fits (Err Version) is = absurd (is refl)
asked_is bytes fits (Err Trailing) (q, rest, known, some, is) =
    inr (ap (λ b. whole_of (query_at b)) (tail is) ∙ ap whole_of (query_reader.again q rest known) ∙ follows q rest some)
asked_is bytes fits (Err Malformed) is = inr (by (query_at bytes) refl)
  where
    by : (a : Result (Query × List ℕ) CodeFault) → query_at bytes ≡ a → whole_of a ≡ Err Malformed
    by (Ok x) e = absurd (let t = query_reader.takes bytes x fits e in is.1 x.0 x.1 t.known (ap (λ b. 1 ∷ b) t.parts))
    by (Err fault) e = refl
asked_is bytes fits (Err Memory) is = inl refl

-- ---- the range and the limit, and then the query

abbrev Head : Type 0
Head = KeyRange × ℕ

abbrev pair_up : Head → Query × List ℕ → Result ((Head × Query) × List ℕ) CodeFault
pair_up head x = Ok ((head, x.0), x.1)

abbrev ask_after : Head × List ℕ → Result ((Head × Query) × List ℕ) CodeFault
ask_after x = query_at x.1 >>>= pair_up x.0

abbrev to_request : (Head × Query) × List ℕ → Result (PageRequest × List ℕ) CodeFault
to_request x = Ok (request_of x.0, x.1)

abbrev finish : Head → Query → Result PageRequest CodeFault
finish head q = Ok (request_of (head, q))

-- the query after the range and the limit
then_asked : (head : Head) (a : Result (Query × List ℕ) CodeFault) → whole_of ((a >>>= pair_up head) >>>= to_request) ≡ (whole_of a >>>= finish head)
then_asked head (Err fault) = refl
then_asked head (Ok x) = by (eqb (length x.1) 0)
  where
    by : (t : _) → cond t (finish head x.0) (Err Trailing) ≡ (cond t (Ok x.0) (Err Trailing) >>>= finish head)
    by true = refl
    by false = refl

after_head : (bytes rest : List ℕ) (head : Head) → head_at bytes ≡ Ok (head, rest) → whole_of (request_at bytes) ≡ (whole_of (query_at rest) >>>= finish head)
after_head bytes rest head is = ap (λ (r : Result (Head × List ℕ) CodeFault). whole_of ((r >>>= ask_after) >>>= to_request)) is ∙ then_asked head (query_at rest)

pub body_read : (bytes rest : List ℕ) (head : Head) (q : Query) → head_at bytes ≡ Ok (head, rest) → whole_of (query_at rest) ≡ Ok q → whole_of (request_at bytes) ≡ Ok (request_of (head, q))
body_read bytes rest head q is asked = after_head bytes rest head is ∙ ap (λ (r : Result Query CodeFault). r >>>= finish head) asked

pub body_fails : (bytes rest : List ℕ) (head : Head) (fault : CodeFault) → head_at bytes ≡ Ok (head, rest) → FailsOr Memory fault (whole_of (query_at rest)) → FailsOr Memory fault (whole_of (request_at bytes))
body_fails bytes rest head fault is (inl m) = inl m
body_fails bytes rest head fault is (inr e) = inr (after_head bytes rest head is ∙ ap (λ (r : Result Query CodeFault). r >>>= finish head) e)

pub no_head : (bytes : List ℕ) (fault : CodeFault) → ¬ (fault ≡ Memory) → FailsOr Memory fault (head_at bytes) → whole_of (request_at bytes) ≡ Err Malformed
no_head bytes fault other (inl m) = absurd (other m)
no_head bytes fault other (inr e) = ap (λ (r : Result (Head × List ℕ) CodeFault). whole_of ((r >>>= ask_after) >>>= to_request)) e
