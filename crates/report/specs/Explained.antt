-- What a report says of an entry of a tape: how it ends, and of a server error its code, the retry method and the redirect.
use Rattle.std.specs.Prelude.{ℕ, zero, suc, List, [], ◌∷◌, ◌++◌, length, Some, None, codes, decimal, Option}
use Rattle.errors.specs.Endings.{ending, error_text, refusal, retry}
use Rattle.errors.specs.Names.{ending_name, method_name}
use Rattle.errors.specs.Redirection.{Sent, moved, ask, redirect}
use Rattle.errors.specs.Words.{code_text}
use Rattle.errors.specs.declared.ending.Ending.{Ending}
use Rattle.errors.specs.declared.ending.Ending.TheVariants as endings
use Rattle.errors.specs.declared.redis_error.RetryMethod.{RetryMethod}
use Rattle.resp.specs.Read.{Read}
use Rattle.report.specs.Shown.{shown}
use Rattle.report.specs.Words.{address_word, spaced}
use Rattle.tape.specs.Entries.{Played, name, entry}
use Rattle.tape.specs.declared.entry.Kind.{Kind}
use Rattle.tape.specs.declared.entry.Kind.TheVariants.{Answer, Dropped, Denied, Other}

abbrev pub kind_word : Kind → List ℕ
kind_word k = name k

-- an answer is read whole, up to the 65,535 bytes that an entry can hold
abbrev pub entry_ending : Kind → List ℕ → Ending
entry_ending Answer bs = ending 65535 bs
entry_ending Dropped bs = endings.Dropped
entry_ending Denied bs = endings.Denied
entry_ending Other bs = endings.Other

abbrev pub entry_error : Kind → List ℕ → Option (List ℕ)
entry_error Answer bs = error_text 65535 bs
entry_error Dropped bs = None
entry_error Denied bs = None
entry_error Other bs = None

abbrev pub dash : List ℕ
dash = codes "-"

abbrev pub code_word : Option (List ℕ) → List ℕ
code_word None = dash
code_word (Some text) = shown (code_text text)

abbrev pub method_word : Option RetryMethod → List ℕ
method_word None = dash
method_word (Some m) = method_name m

abbrev pub sent_word : Option Sent → List ℕ
sent_word None = dash
sent_word (Some (moved n)) = address_word n
sent_word (Some (ask n)) = address_word n

abbrev pub redirect_word : Option (List ℕ) → List ℕ
redirect_word None = dash
redirect_word (Some text) = sent_word (redirect text)

unfoldable pub entry_line : ℕ → Kind → List ℕ → List ℕ
entry_line i k bs =
    codes "entry"
    ++ spaced
    (decimal i ∷ kind_word k ∷ ending_name (entry_ending k bs) ∷ code_word (entry_error k bs) ∷ method_word (retry (refusal (entry_ending k bs)))
    ∷ redirect_word (entry_error k bs) ∷ [])

-- the line of the i-th entry, and those of the entries behind it; what is cut off plays dropped
abbrev pub played_line : (ℕ → List ℕ → List ℕ) → ℕ → Option (Read Played) → List ℕ
played_line others i None = entry_line i Dropped [] ++ (10 ∷ [])
played_line others i (Some x) = entry_line i x.value.plays x.value.bytes ++ (10 ∷ others (suc i) x.rest)

-- the lines of a tape from its i-th entry on, of which there are at most so many
abbrev pub lines : ℕ → ℕ → List ℕ → List ℕ
lines zero i tape = []
lines (suc most) i [] = []
lines (suc most) i (b ∷ bs) = played_line (lines most) i (entry (b ∷ bs))

abbrev pub explained : List ℕ → List ℕ
explained tape = lines (length tape) 1 tape
