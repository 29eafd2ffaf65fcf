use Rattle.std.proofs.Common.{◌≡◌, ◌∙◌, sym, ap, subst}
use Rattle.std.specs.Bool.{Decides}
use Rattle.schema_version.specs.Version.{Version}
use Rattle.schema_version.specs.Inside.{version_of}
use Rattle.schema_version.specs.inner.Encoding.{encoding}
use Rattle.schema_version.proofs.Equality.{same_encoding_same}
use Rattle.schema_version.proofs.schema.Schema.is_same.Goals as goal

pub returns : goal.returns
returns c =
    let own : c.as_slice.result.now ≡ encoding (version_of c.self.inside) = c.as_slice.ensures.value ∙ c.self.invariant.3 in
    let others : c.as_slice-2.result.now ≡ encoding (version_of c.other.inside) = c.as_slice-2.ensures.value ∙ c.other.invariant.3 in
    let inside : Decides c.same_bytes.result (version_of c.self.inside ≡ version_of c.other.inside)
    = (
      (λ t. same_encoding_same (version_of c.self.inside) (version_of c.other.inside) c.self.invariant.2 c.other.invariant.2 (sym own ∙ c.same_bytes.ensures.0 t ∙ others)),
      λ e. c.same_bytes.ensures.1 (own ∙ ap encoding e ∙ sym others),
    ) in
    subst (λ (v : Version). Decides c.same_bytes.result (v ≡ c.args.other.now)) c.self.view_is (subst (λ (v : Version). Decides c.same_bytes.result (version_of c.self.inside ≡ v)) c.other.view_is inside)
