-- Where an error sends its command: the second word of the detail, behind a slot's number.
use Rattle.std.specs.Prelude.{ℕ, cond, List, [], ◌∷◌, Some, None, Option, ◌==◌, nat_le}
use Rattle.node.specs.Named.{Named}
use Rattle.node.specs.Text.{readable}
use Rattle.resp.specs.Number.{natural}
use Rattle.resp.specs.Told.{part, Inside}
use Rattle.errors.specs.Codes.{kind}
use Rattle.errors.specs.Words.{code_text, detail_text, first_word, behind_word}
use Rattle.errors.specs.declared.redirects.Redirect.{Redirect}
use Rattle.errors.specs.declared.redirects.Redirect.TheVariants.{Moved, Ask}
use Rattle.errors.specs.declared.redirects.Target.{Target}
use Rattle.errors.specs.declared.server_error.ServerErrorKind.{ServerErrorKind}
use Rattle.errors.specs.declared.server_error.ServerErrorKind.TheVariants as kinds

abbrev pub small : Option ℕ → Option ℕ
small None = None
small (Some n) = cond (nat_le n 65535) (Some n) None

-- a number up to 65535, with at most one plus sign
abbrev pub slot : List ℕ → Option ℕ
slot [] = None
slot (c ∷ cs) = cond (c == 43) (small (natural cs)) (small (natural (c ∷ cs)))

abbrev pub behind_slot : Option ℕ → Option Named → Option Named
behind_slot None n = None
behind_slot (Some s) n = n

abbrev pub node : List ℕ → Option Named
node detail = behind_slot (slot (first_word detail)) (readable (first_word (behind_word detail)))

-- for good, or this once
pub data Sent : Type 0 where
  moved : Named → Sent
  ask : Named → Sent

abbrev pub sends : ServerErrorKind → Named → Option Sent
sends kinds.ResponseError n = None
sends kinds.ExecAbort n = None
sends kinds.BusyLoading n = None
sends kinds.NoScript n = None
sends kinds.Moved n = Some (moved n)
sends kinds.Ask n = Some (ask n)
sends kinds.TryAgain n = None
sends kinds.ClusterDown n = None
sends kinds.CrossSlot n = None
sends kinds.MasterDown n = None
sends kinds.ReadOnly n = None
sends kinds.NotBusy n = None
sends kinds.NoSub n = None
sends kinds.NoPerm n = None

abbrev pub sent_to : Option ServerErrorKind → Option Named → Option Sent
sent_to k None = None
sent_to None (Some n) = None
sent_to (Some k) (Some n) = sends k n

abbrev pub node_in : Option (List ℕ) → Option Named
node_in None = None
node_in (Some detail) = node detail

-- the redirect in an error's text
abbrev pub redirect : List ℕ → Option Sent
redirect text = sent_to (kind (code_text text)) (node_in (detail_text text))

-- what the code's numbers tell of it
abbrev pub told : List ℕ → Option Target → Option Named
told detail None = None
told detail (Some t) = Some (record { host = part detail t.host; port = t.port })

abbrev pub named : List ℕ → Target → Named
named text t = record { host = part text t.host; port = t.port }

abbrev pub sent : List ℕ → Option Redirect → Option Sent
sent text None = None
sent text (Some (Moved t)) = Some (moved (named text t))
sent text (Some (Ask t)) = Some (ask (named text t))

abbrev pub Sends : ℕ → Option Redirect → Type 0
Sends n None = Unit {0}
Sends n (Some (Moved t)) = Inside n t.host
Sends n (Some (Ask t)) = Inside n t.host
