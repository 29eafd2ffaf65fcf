-- The order that is derived for values is the one of the definitions.
use Rattle.std.proofs.Common.{◌≡◌, refl}
use Rattle.keycode.specs.declared.value.Value.{Value}
use Rattle.keycode.specs.declared.value.Value.TheVariants.{Null, Int, Text, Bool as Flag}
use Rattle.keycode.specs.Order.{value_cmp}
use Rattle.keycode.specs.contracts.value.ValueOrd.TheImpl.{cmp-value}

pub derived_is : (v w : Value) → cmp-value.it v w ≡ value_cmp v w
derived_is Null Null = refl
derived_is Null (Int n) = refl
derived_is Null (Text t) = refl
derived_is Null (Flag b) = refl
derived_is (Int m) Null = refl
derived_is (Int m) (Int n) = refl
derived_is (Int m) (Text t) = refl
derived_is (Int m) (Flag b) = refl
derived_is (Text s) Null = refl
derived_is (Text s) (Int n) = refl
derived_is (Text s) (Text t) = refl
derived_is (Text s) (Flag b) = refl
derived_is (Flag a) Null = refl
derived_is (Flag a) (Int n) = refl
derived_is (Flag a) (Text t) = refl
derived_is (Flag a) (Flag b) = refl
