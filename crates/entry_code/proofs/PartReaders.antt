-- The readers of what a checkpoint is made of.
use Rattle.std.proofs.Common.{◌≡◌, ℕ, eqb, List, [], ◌∷◌, ◌++◌, Ok, refl, inl, inr}
use Rattle.keycode.specs.Valid.{IsStorable}
use Rattle.keycode.proofs.Fields.{IsBytes}
use Rattle.schema_version.specs.declared.element.ElementDef.{ElementDef}
use Rattle.schema_version.specs.declared.element.Way.{Way}
use Rattle.schema_version.specs.declared.element.Way.TheVariants.{Adding, Dropping}
use Rattle.schema_version.specs.declared.element.Work.{Work}
use Rattle.schema_version.specs.declared.element.Work.TheVariants.{Fill, Clear}
use Rattle.reorganise.specs.declared.work.Span.{Span}
use Rattle.reorganise.specs.declared.work.Progress.{Progress}
use Rattle.entry_code.specs.declared.parts.SchemaParts.{SchemaParts}
use Rattle.entry_code.specs.declared.parts.HeadParts.{HeadParts}
use Rattle.entry_code.specs.Code.{pair_code, list_code, bytes_code}
use Rattle.entry_code.specs.Known.{IsAny}
use Rattle.entry_code.specs.Parts.{way_code, element_code, work_code, span_code, progress_code, schema_code, parts_code, IsElement, IsSpan, IsProgress, IsSchema, IsHead, ArePairs}
use Rattle.entry_code.specs.inner.At.{byte_at, bytes_at, pair_at, list_at}
use Rattle.entry_code.specs.inner.PartsAt.{way_at, element_at, work_at, span_at, progress_at, schema_at, head_at}
use Rattle.entry_code.proofs.Asked.{option_reader}
use Rattle.entry_code.proofs.Readers.{Takes, IsReader, chosen, u32_reader, u64_reader, bytes_reader, text_reader, pair_reader, map_reader, list_reader, nothing_reader, variant_takes}
use Rattle.entry_code.proofs.Types.{type_reader, state_reader, kind_reader}

way_takes : (bytes : List ℕ) (x : Way × List ℕ) → IsBytes bytes → way_at bytes ≡ Ok x → Takes IsAny way_code bytes x
unfolding way_at byte_at
way_takes [] x fits e = absurd cc
way_takes (tag ∷ bytes) x fits e =
    elim (chosen (eqb tag 0) _ _ (Ok x) e) [
      | inl t ↦ variant_takes IsAny way_code 0 (λ _. Adding) (λ _. refl) (λ _ _. tt) nothing_reader tag bytes x fits t.0 t.1
      | inr e1 ↦ elim (chosen (eqb tag 1) _ _ (Ok x) e1.1) [
        | inl t ↦ variant_takes IsAny way_code 1 (λ _. Dropping) (λ _. refl) (λ _ _. tt) nothing_reader tag bytes x fits t.0 t.1
        | inr t ↦ absurd cc
      ]
    ]

way_again : (x : Way) (rest : List ℕ) → IsAny x → way_at (way_code x ++ rest) ≡ Ok (x, rest)
unfolding way_at byte_at
way_again Adding rest known = refl
way_again Dropping rest known = refl

pub way_reader : IsReader IsAny way_code way_at
way_reader = record { takes = way_takes; again = way_again }

work_takes : (bytes : List ℕ) (x : Work × List ℕ) → IsBytes bytes → work_at bytes ≡ Ok x → Takes IsAny work_code bytes x
unfolding work_at byte_at
work_takes [] x fits e = absurd cc
work_takes (tag ∷ bytes) x fits e =
    elim (chosen (eqb tag 0) _ _ (Ok x) e) [
      | inl t ↦ variant_takes IsAny work_code 0 (λ _. Fill) (λ _. refl) (λ _ _. tt) nothing_reader tag bytes x fits t.0 t.1
      | inr e1 ↦ elim (chosen (eqb tag 1) _ _ (Ok x) e1.1) [
        | inl t ↦ variant_takes IsAny work_code 1 (λ _. Clear) (λ _. refl) (λ _ _. tt) nothing_reader tag bytes x fits t.0 t.1
        | inr t ↦ absurd cc
      ]
    ]

work_again : (x : Work) (rest : List ℕ) → IsAny x → work_at (work_code x ++ rest) ≡ Ok (x, rest)
unfolding work_at byte_at
work_again Fill rest known = refl
work_again Clear rest known = refl

pub work_reader : IsReader IsAny work_code work_at
work_reader = record { takes = work_takes; again = work_again }

pub element_reader : IsReader (IsElement IsStorable) element_code element_at
unfolding element_at
element_reader =
    map_reader _ (λ (e : ElementDef). (e.number, (e.table, (e.name, (e.kind, (e.state, e.way)))))) (λ _. refl) (λ _. refl)
    (pair_reader u32_reader (pair_reader u32_reader (pair_reader text_reader (pair_reader kind_reader (pair_reader state_reader way_reader)))))

span_reader : IsReader IsSpan span_code span_at
unfolding span_at
span_reader = map_reader _ (λ (s : Span). (s.low, (s.high, s.cursor))) (λ _. refl) (λ _. refl) (pair_reader bytes_reader (pair_reader bytes_reader bytes_reader))

progress_reader : IsReader (IsProgress IsStorable) progress_code progress_at
unfolding progress_at
progress_reader = map_reader _ (λ (p : Progress). (p.element, (p.kind, p.pieces))) (λ _. refl) (λ _. refl) (pair_reader element_reader (pair_reader work_reader (list_reader span_reader)))

pub schema_reader : IsReader (IsSchema IsStorable) schema_code schema_at
unfolding schema_at
schema_reader =
    let columns = list_reader (pair_reader text_reader type_reader) in
    map_reader _ (λ (s : SchemaParts). (s.tables, (s.elements, s.next))) (λ _. refl) (λ _. refl)
    (pair_reader (list_reader (pair_reader text_reader columns)) (pair_reader (list_reader element_reader) u32_reader))

pub head_reader : IsReader (IsHead IsStorable) parts_code head_at
unfolding head_at
head_reader =
    map_reader _ (λ (h : HeadParts). (h.place, (h.moment, (h.length, (h.published, (h.newest, (h.before, h.begun))))))) (λ _. refl) (λ _. refl)
    (pair_reader u64_reader (pair_reader u64_reader (pair_reader u64_reader (pair_reader (list_reader u64_reader) (pair_reader schema_reader (pair_reader (option_reader schema_reader) (list_reader progress_reader)))))))

pub pairs_reader : IsReader ArePairs (list_code (pair_code bytes_code bytes_code)) (list_at (pair_at bytes_at bytes_at))
pairs_reader = list_reader (pair_reader bytes_reader bytes_reader)
