-- The words by which reports name kinds, endings and methods.
use Rattle.std.specs.Prelude.{ℕ, List, codes}
use Rattle.errors.specs.declared.ending.Ending.{Ending}
use Rattle.errors.specs.declared.ending.Ending.TheVariants.{Good, Server, Extension, Parse, TooLong, Dropped, Denied, Other}
use Rattle.errors.specs.declared.redis_error.RetryMethod.{RetryMethod}
use Rattle.errors.specs.declared.redis_error.RetryMethod.TheVariants.{Reconnect, NoRetry, RetryImmediately, WaitAndRetry, AskRedirect, MovedRedirect, ReconnectFromInitialConnections, RefreshSlotsAndRetry}
use Rattle.errors.specs.declared.server_error.ServerErrorKind.{ServerErrorKind}
use Rattle.errors.specs.declared.server_error.ServerErrorKind.TheVariants.{ResponseError, ExecAbort, BusyLoading, NoScript, Moved, Ask, TryAgain, ClusterDown, CrossSlot, MasterDown, ReadOnly, NotBusy, NoSub, NoPerm}

abbrev pub kind_name : ServerErrorKind → List ℕ
kind_name ResponseError = codes "ResponseError"
kind_name ExecAbort = codes "ExecAbort"
kind_name BusyLoading = codes "BusyLoading"
kind_name NoScript = codes "NoScript"
kind_name Moved = codes "Moved"
kind_name Ask = codes "Ask"
kind_name TryAgain = codes "TryAgain"
kind_name ClusterDown = codes "ClusterDown"
kind_name CrossSlot = codes "CrossSlot"
kind_name MasterDown = codes "MasterDown"
kind_name ReadOnly = codes "ReadOnly"
kind_name NotBusy = codes "NotBusy"
kind_name NoSub = codes "NoSub"
kind_name NoPerm = codes "NoPerm"

abbrev pub ending_name : Ending → List ℕ
ending_name Good = codes "good"
ending_name (Server k) = kind_name k
ending_name Extension = codes "Extension"
ending_name Parse = codes "Parse"
ending_name TooLong = codes "TooLong"
ending_name Dropped = codes "Dropped"
ending_name Denied = codes "Denied"
ending_name Other = codes "Other"

abbrev pub method_name : RetryMethod → List ℕ
method_name Reconnect = codes "Reconnect"
method_name NoRetry = codes "NoRetry"
method_name RetryImmediately = codes "RetryImmediately"
method_name WaitAndRetry = codes "WaitAndRetry"
method_name AskRedirect = codes "AskRedirect"
method_name MovedRedirect = codes "MovedRedirect"
method_name ReconnectFromInitialConnections = codes "ReconnectFromInitialConnections"
method_name RefreshSlotsAndRetry = codes "RefreshSlotsAndRetry"
