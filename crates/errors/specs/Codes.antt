-- The codes of server errors that the client knows.
use Rattle.std.specs.Prelude.{ℕ, List, [], ◌∷◌, codes, Option}
use Rattle.std.specs.List.{find}
use Rattle.std.specs.Str.{bytes_eq}
use Rattle.errors.specs.declared.server_error.ServerErrorKind.{ServerErrorKind}
use Rattle.errors.specs.declared.server_error.ServerErrorKind.TheVariants.{ResponseError, ExecAbort, BusyLoading, NoScript, Moved, Ask, TryAgain, ClusterDown, CrossSlot, MasterDown, ReadOnly, NotBusy, NoSub, NoPerm}

abbrev pub code : ServerErrorKind → List ℕ
code ResponseError = codes "ERR"
code ExecAbort = codes "EXECABORT"
code BusyLoading = codes "LOADING"
code NoScript = codes "NOSCRIPT"
code Moved = codes "MOVED"
code Ask = codes "ASK"
code TryAgain = codes "TRYAGAIN"
code ClusterDown = codes "CLUSTERDOWN"
code CrossSlot = codes "CROSSSLOT"
code MasterDown = codes "MASTERDOWN"
code ReadOnly = codes "READONLY"
code NotBusy = codes "NOTBUSY"
code NoSub = codes "NOSUB"
code NoPerm = codes "NOPERM"

abbrev pub kinds : List ServerErrorKind
kinds =
    ResponseError ∷ ExecAbort ∷ BusyLoading ∷ NoScript ∷ Moved ∷ Ask ∷ TryAgain ∷ ClusterDown ∷ CrossSlot ∷ MasterDown ∷ ReadOnly
    ∷ NotBusy ∷ NoSub ∷ NoPerm ∷ []

-- the kind that has this code
unfoldable pub kind : List ℕ → Option ServerErrorKind
kind text = find (λ k. bytes_eq (code k) text) kinds
