-- One more handle that has made no call yet.
use Rattle.std.proofs.Common.{◌≡◌, ℕ, ◌+◌, ◌<◌, List, [], ◌∷◌, ◌++◌, sym, ap, ◌∙◌, arith}
use Rattle.std.specs.Prelude.{slice_index_or}
use Rattle.std.proofs.lemmas.List.{get_or_append_left, get_or_push}
use mathlib.Core.Logic.{dite}
use native.Mathlib.Decide.{ℕ_discrete}
use Rattle.locked_store.specs.Known.{Known, AreFresh}

abbrev fresh : ℕ → ℕ → ℕ → Known
fresh since cut k = record { id = k; front = since; count = 0; taken = 0; refused = 0; cut = cut }

pub fresh_more : (n since cut : ℕ) (hs : List Known) (h : Known) → AreFresh n since cut hs → h ≡ fresh since cut n → (k : ℕ) (d : Known) → k < n + 1 → slice_index_or (hs ++ h ∷ []) k d ≡ fresh since cut k
fresh_more n since cut hs h are is k d lt =
    dite (ℕ_discrete k n)
    (λ e. ap (λ (i : ℕ). slice_index_or (hs ++ h ∷ []) i d) e ∙ get_or_push hs h d n are.0 ∙ is ∙ ap (fresh since cut) (sym e))
    (λ ne. get_or_append_left hs (h ∷ []) d k (omega (arith, are.0)) ∙ are.1 k d (omega arith))

pub of_counts : (k since cut n t r c : ℕ) → n ≡ 0 → t ≡ 0 → r ≡ 0 → c ≡ cut → record { id = k; front = since; count = n; taken = t; refused = r; cut = c } ≡ fresh since cut k
of_counts k since cut n t r c no_count no_taken no_refused is_cut = λ i. record { id = k; front = since; count = no_count i; taken = no_taken i; refused = no_refused i; cut = is_cut i }
