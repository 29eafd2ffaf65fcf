-- Heads and their parts.
use Rattle.std.proofs.Common.{◌≡◌, ℕ, List, Option, Some, None, Result, Ok, Err, reverse, refl, sym, ap, subst, ◌∙◌, get_or, option_map}
use Rattle.std.specs.Prelude.{IfSome}
use Rattle.std.proofs.lemmas.List.{reverse-reverse}
use Rattle.keycode.specs.Valid.{IsStorable}
use Rattle.lease.specs.Timeline.{Timeline, IsValid}
use Rattle.lease.specs.Restored.{line_of}
use Rattle.schema_version.specs.Version.{Version}
use Rattle.schema_version.specs.Sound.{IsSoundVersion}
use Rattle.schema_version.proofs.Restored.{parts_are_exact}
use Rattle.entry_code.specs.declared.parts.SchemaParts.{SchemaParts}
use Rattle.entry_code.specs.declared.parts.HeadParts.{HeadParts}
use Rattle.entry_code.specs.declared.fault.CodeFault.{CodeFault}
use Rattle.entry_code.specs.declared.fault.CodeFault.TheVariants as code
use Rattle.entry_code.specs.Parts.{head_parts_code, IsHead}
use Rattle.entry_code.specs.Read.{HasVersion, IsRead, IsAccepted}
use Rattle.checkpoint_code.specs.declared.head.Head.{Head}
use Rattle.checkpoint_code.specs.declared.fault.HeadFault.{HeadFault}
use Rattle.checkpoint_code.specs.declared.fault.HeadFault.TheVariants as head
use Rattle.checkpoint_code.specs.Head.{schema_parts, parts_of, IsKnown, IsVersion, WhyNone, IsMade, IsHeadRead, IsHeadAccepted}
use Rattle.checkpoint_code.specs.Restores.{version_of, IsBefore, to_fault}

some_same : {x y : SchemaParts} → Some x ≡ Some y → x ≡ y
some_same e = cc

-- ---- versions

parts_back : (p : SchemaParts) → IsVersion p → schema_parts (version_of p) ≡ p
parts_back p is = λ i. record { tables = parts_are_exact.tables p.tables p.elements p.next i; elements = parts_are_exact.live p.tables p.elements p.next is.rising i; next = p.next }

version_back : (v : Version) → IsSoundVersion v → version_of (schema_parts v) ≡ v
version_back v sound = parts_are_exact.whole v sound

is_version : (v : Version) → IsSoundVersion v → IsVersion (schema_parts v)
is_version v sound = parts_are_exact.restorable v sound

parts_from : (p : SchemaParts) (v : Version) → v ≡ version_of p → IsVersion p → schema_parts v ≡ p
parts_from p v same is = ap schema_parts same ∙ parts_back p is

sound_from : (p : SchemaParts) (v : Version) → v ≡ version_of p → IsVersion p → IsSoundVersion v
sound_from p v same is = subst IsSoundVersion (sym same) is.sound

before_parts : (p : Option SchemaParts) (v : Option Version) → IsBefore p v → option_map schema_parts v ≡ p
before_parts None None is = refl
before_parts None (Some v) is = absurd is
before_parts (Some p) None is = absurd is
before_parts (Some p) (Some v) is = ap Some (parts_from p v is.0 is.1)

before_sound : (p : Option SchemaParts) (v : Option Version) → IsBefore p v → IfSome v IsSoundVersion
before_sound None None is = tt
before_sound None (Some v) is = absurd is
before_sound (Some p) None is = absurd is
before_sound (Some p) (Some v) is = sound_from p v is.0 is.1

-- ---- a head from its parts

pub made : (parts : HeadParts) (place moment : ℕ) (line : Timeline) (newest : Version) (before : Option Version)
    → place ≡ parts.place → moment ≡ parts.moment → line ≡ line_of parts.length parts.published → IsValid (line_of parts.length parts.published)
    → newest ≡ version_of parts.newest → IsVersion parts.newest → IsBefore parts.before before
    → IsMade parts (Ok (record { place = place; moment = moment; line = line; newest = newest; before = before; begun = parts.begun }))
made parts place moment line newest before at now same valid is known earlier = (
  λ i. record {
    place = at i;
    moment = now i;
    length = ap (λ (l : Timeline). l.length) same i;
    published = (ap (λ (l : Timeline). reverse l.published) same ∙ reverse-reverse parts.published) i;
    newest = parts_from parts.newest newest is known i;
    before = before_parts parts.before before earlier i;
    begun = parts.begun;
  },
  subst IsValid (sym same) valid,
  sound_from parts.newest newest is known,
  before_sound parts.before before earlier,
)

-- ---- what is read

has_version : (bytes : List ℕ) (parts : HeadParts) → bytes ≡ head_parts_code parts → HasVersion bytes
has_version bytes parts is = ap (λ l. get_or l 0 0) is

pub read_made : (bytes : List ℕ) (parts : HeadParts) (r : Result Head HeadFault) → (bytes ≡ head_parts_code parts) × IsHead IsStorable parts → IsMade parts r → IsHeadRead bytes r
read_made bytes parts (Ok h) read is = (
  read.0 ∙ ap head_parts_code (sym is.0),
  record { line = is.1; newest = is.2; before = is.3; parts = subst (IsHead IsStorable) (sym is.0) read.1 },
)
read_made bytes parts (Err head.Version) read is = absurd is
read_made bytes parts (Err head.Trailing) read is = absurd is
read_made bytes parts (Err head.Malformed) read is = absurd is
read_made bytes parts (Err head.BadTimeline) read is = (parts, read.1, read.0, is)
read_made bytes parts (Err head.BadNewest) read is = (parts, read.1, read.0, is)
read_made bytes parts (Err head.BadBefore) read is = (parts, read.1, read.0, is)
read_made bytes parts (Err head.Memory) read is = has_version bytes parts read.0

pub read_fault : (bytes : List ℕ) (fault : CodeFault) → IsRead (IsHead IsStorable) head_parts_code bytes (Err fault) → IsHeadRead bytes (Err (to_fault fault))
read_fault bytes code.Version is = is
read_fault bytes code.Trailing is = is
read_fault bytes code.Malformed is = is
read_fault bytes code.Memory is = is

-- ---- what is accepted

line_back : (a b : Timeline) → a.length ≡ b.length → reverse a.published ≡ reverse b.published → a ≡ b
line_back a b length published = λ i. record { length = length i; published = (sym (reverse-reverse a.published) ∙ ap reverse published ∙ reverse-reverse b.published) i }

version_same : (a b : Version) → IsSoundVersion a → IsSoundVersion b → schema_parts a ≡ schema_parts b → a ≡ b
version_same a b left right same = sym (version_back a left) ∙ ap version_of same ∙ version_back b right

before_same : (a b : Option Version) → IfSome a IsSoundVersion → IfSome b IsSoundVersion → option_map schema_parts a ≡ option_map schema_parts b → a ≡ b
before_same None None left right same = refl
before_same None (Some b) left right same = cc
before_same (Some a) None left right same = cc
before_same (Some a) (Some b) left right same = ap Some (version_same a b left right (some_same same))

head_same : (a b : Head) → IsValid a.line → IsSoundVersion a.newest → IfSome a.before IsSoundVersion → IsKnown IsStorable b → parts_of a ≡ parts_of b → a ≡ b
head_same a b valid sound earlier known same =
    let line = line_back a.line b.line (ap (λ (p : HeadParts). p.length) same) (ap (λ (p : HeadParts). p.published) same) in
    let newest = version_same a.newest b.newest sound known.newest (ap (λ (p : HeadParts). p.newest) same) in
    let before = before_same a.before b.before earlier known.before (ap (λ (p : HeadParts). p.before) same) in
    λ i. record {
      place = ap (λ (p : HeadParts). p.place) same i;
      moment = ap (λ (p : HeadParts). p.moment) same i;
      line = line i;
      newest = newest i;
      before = before i;
      begun = ap (λ (p : HeadParts). p.begun) same i;
    }

line_same : (h : Head) → line_of (parts_of h).length (parts_of h).published ≡ h.line
line_same h = λ i. record { length = h.line.length; published = reverse-reverse h.line.published i }

-- there is no reason against a head that is known
no_reason : (h : Head) (fault : HeadFault) → IsKnown IsStorable h → ¬ (WhyNone (parts_of h) fault)
no_reason h head.Version known why = why
no_reason h head.Trailing known why = why
no_reason h head.Malformed known why = why
no_reason h head.BadTimeline known why = why (subst IsValid (sym (line_same h)) known.line)
no_reason h head.BadNewest known why = why.1 (is_version h.newest known.newest)
no_reason h head.BadBefore known why = by h.before known.before why.2
  where
    by : (before : Option Version) → IfSome before IsSoundVersion → (p : SchemaParts) × (option_map schema_parts before ≡ Some p) × (¬ (IsVersion p)) → ⊥
    by None sound (p, is, not_version) = cc
    by (Some v) sound (p, is, not_version) = not_version (subst IsVersion (some_same is) (is_version v sound))
no_reason h head.Memory known why = why

pub accept_made : (bytes : List ℕ) (parts : HeadParts) (r : Result Head HeadFault) → IsAccepted (IsHead IsStorable) head_parts_code bytes (Ok parts) → IsMade parts r → IsHeadAccepted bytes r
accept_made bytes parts (Ok got) accepted is = λ h known code.
    head_same got h is.1 is.2 is.3 known (is.0 ∙ accepted (parts_of h) known.parts code)
accept_made bytes parts (Err head.Memory) accepted is = λ h known code. refl
accept_made bytes parts (Err head.Version) accepted is = λ h known code. absurd is
accept_made bytes parts (Err head.Trailing) accepted is = λ h known code. absurd is
accept_made bytes parts (Err head.Malformed) accepted is = λ h known code. absurd is
accept_made bytes parts (Err head.BadTimeline) accepted is = λ h known code. absurd (no_reason h head.BadTimeline known (subst (λ p. WhyNone p head.BadTimeline) (accepted (parts_of h) known.parts code) is))
accept_made bytes parts (Err head.BadNewest) accepted is = λ h known code. absurd (no_reason h head.BadNewest known (subst (λ p. WhyNone p head.BadNewest) (accepted (parts_of h) known.parts code) is))
accept_made bytes parts (Err head.BadBefore) accepted is = λ h known code. absurd (no_reason h head.BadBefore known (subst (λ p. WhyNone p head.BadBefore) (accepted (parts_of h) known.parts code) is))

pub accept_fault : (bytes : List ℕ) (fault : CodeFault) → IsAccepted (IsHead IsStorable) head_parts_code bytes (Err fault) → IsHeadAccepted bytes (Err (to_fault fault))
accept_fault bytes fault accepted = λ h known spelled. ap to_fault (accepted (parts_of h) known.parts spelled)
