-- How an answer ends: good, by the first server error in it, unreadable, or too long.
use Rattle.std.specs.Prelude.{ℕ, cond, List, length, Some, None, Option, nat_lt}
use Rattle.std.specs.Option.{option_map, option_map_or}
pub use Rattle.resp.specs.Reading.{alone}
use Rattle.resp.specs.Reading.{whole_value}
use Rattle.resp.specs.Value.{Value, first_error}
use Rattle.errors.specs.Codes.{kind}
use Rattle.errors.specs.Words.{code_text}
use Rattle.errors.specs.Retries.{method}
use Rattle.errors.specs.declared.ending.Ending.{Ending}
use Rattle.errors.specs.declared.ending.Ending.TheVariants.{Good, Server, Extension, Parse, TooLong, Dropped, Denied, Other}
use Rattle.errors.specs.declared.redis_error.NetworkFault.TheVariants as faults
use Rattle.errors.specs.declared.redis_error.Refusal.{Refusal}
use Rattle.errors.specs.declared.redis_error.Refusal.TheVariants as refusals
use Rattle.errors.specs.declared.redis_error.RetryMethod.{RetryMethod}
use Rattle.errors.specs.declared.server_error.ServerErrorKind.{ServerErrorKind}

-- with arrays nested at most 8 deep
abbrev pub answered : List ℕ → Option Value
answered bs = whole_value 8 bs

abbrev pub kind_ending : Option ServerErrorKind → Ending
kind_ending o = option_map_or Server o Extension

abbrev pub error_ending : Option (List ℕ) → Ending
error_ending None = Good
error_ending (Some text) = kind_ending (kind (code_text text))

abbrev pub value_ending : Option Value → Ending
value_ending o = option_map_or (λ v. error_ending (first_error v)) o Parse

abbrev pub value_error : Option Value → Option (List ℕ)
value_error o = option_map_or first_error o None

-- an answer for which so many bytes of memory are lent
abbrev pub ending : ℕ → List ℕ → Ending
ending lent bs = cond (nat_lt lent (length bs)) TooLong (value_ending (answered bs))

-- the text of the error by which it ends
abbrev pub error_text : ℕ → List ℕ → Option (List ℕ)
error_text lent bs = cond (nat_lt lent (length bs)) None (value_error (answered bs))

-- the refusal that an ending other than good stands for
abbrev pub refusal : Ending → Option Refusal
refusal Good = None
refusal (Server k) = Some (refusals.Server k)
refusal Extension = Some refusals.Extension
refusal Parse = Some refusals.Unreadable
refusal TooLong = Some (refusals.Network faults.TooLong)
refusal Dropped = Some (refusals.Network faults.Dropped)
refusal Denied = Some (refusals.Network faults.Denied)
refusal Other = Some (refusals.Network faults.Other)

abbrev pub retry : Option Refusal → Option RetryMethod
retry o = option_map method o
