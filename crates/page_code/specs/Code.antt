-- Cited by the contracts of page_request_of.
-- The one code in bytes of a request for a page.
use Rattle.std.specs.Prelude.{ℕ, List, ◌++◌}
use Rattle.keycode.specs.declared.value.Value.{Value}
use Rattle.entry_code.specs.Code.{u32_code, option_code, key_code, asked_code, versioned}
use Rattle.entry_code.specs.Known.{IsU32, IsList, IsOption, IsQuery}
use Rattle.page_code.specs.declared.request.PageRequest.{PageRequest}

-- the keys of the range, the limit and the query, without the version
abbrev pub body_code : PageRequest → List ℕ
body_code request =
    (option_code key_code request.range.after ++ (option_code key_code request.range.before ++ u32_code request.limit)) ++ asked_code request.query

abbrev pub request_code : PageRequest → List ℕ
request_code = versioned body_code

-- what types say of it: numbers are in their ranges, lists have fewer than 2^64 items, and values are as V says
abbrev pub IsRequest : (Value → Type 0) → PageRequest → Type 0
IsRequest V request =
    (IsOption (IsList V) request.range.after × (IsOption (IsList V) request.range.before × IsU32 request.limit)) × IsQuery V request.query
