-- What a retry does first, by the kind of the error.
use Rattle.std.specs.Prelude.{cond}
use Rattle.errors.specs.Refusals.{kind, dropped, denied}
use Rattle.errors.specs.declared.redis_error.ErrorKind.{ErrorKind}
use Rattle.errors.specs.declared.redis_error.ErrorKind.TheVariants.{Parse, UnexpectedReturnType, Io, Client, Extension, ClusterConnectionNotFound, Server}
use Rattle.errors.specs.declared.redis_error.Refusal.{Refusal}
use Rattle.errors.specs.declared.redis_error.RetryMethod.{RetryMethod}
use Rattle.errors.specs.declared.redis_error.RetryMethod.TheVariants.{Reconnect, NoRetry, RetryImmediately, WaitAndRetry, AskRedirect, MovedRedirect, ReconnectFromInitialConnections, RefreshSlotsAndRetry}
use Rattle.errors.specs.declared.server_error.ServerErrorKind.{ServerErrorKind}
use Rattle.errors.specs.declared.server_error.ServerErrorKind.TheVariants.{ResponseError, ExecAbort, BusyLoading, NoScript, Moved, Ask, TryAgain, ClusterDown, CrossSlot, MasterDown, ReadOnly, NotBusy, NoSub, NoPerm}

abbrev pub server_method : ServerErrorKind → RetryMethod
server_method ResponseError = NoRetry
server_method ExecAbort = NoRetry
server_method BusyLoading = WaitAndRetry
server_method NoScript = NoRetry
server_method Moved = MovedRedirect
server_method Ask = AskRedirect
server_method TryAgain = WaitAndRetry
server_method ClusterDown = WaitAndRetry
server_method CrossSlot = NoRetry
server_method MasterDown = WaitAndRetry
server_method ReadOnly = RefreshSlotsAndRetry
server_method NotBusy = NoRetry
server_method NoSub = NoRetry
server_method NoPerm = NoRetry

abbrev pub kind_method : Refusal → ErrorKind → RetryMethod
kind_method r Parse = Reconnect
kind_method r UnexpectedReturnType = NoRetry
kind_method r Io = cond (dropped r) Reconnect (cond (denied r) NoRetry RetryImmediately)
kind_method r Client = NoRetry
kind_method r Extension = NoRetry
kind_method r ClusterConnectionNotFound = ReconnectFromInitialConnections
kind_method r (Server k) = server_method k

abbrev pub method : Refusal → RetryMethod
method r = kind_method r (kind r)
