-- Each refusal's number and kind.
use Rattle.std.specs.Prelude.{ℕ, Bool, true, false}
use Rattle.errors.specs.declared.redis_error.ErrorKind.{ErrorKind}
use Rattle.errors.specs.declared.redis_error.ErrorKind.TheVariants as kinds
use Rattle.errors.specs.declared.redis_error.NetworkFault.{NetworkFault}
use Rattle.errors.specs.declared.redis_error.NetworkFault.TheVariants.{Dropped, Denied, Other, TooLong}
use Rattle.errors.specs.declared.redis_error.Refusal.{Refusal}
use Rattle.errors.specs.declared.redis_error.Refusal.TheVariants.{Seeds, Settings, Command, IllegalCommand, Route, WorkMemory, LogRoom, UncoveredSlot, LinkTable, NoSeed, NoSlotsLink, SlotTable, NoLink, Network, Unreadable, Server, Extension, Shape, Keys, Sum, NoneForAll, NoneForOne, NoneForMin, Output}

abbrev pub number : Refusal → ℕ
number Seeds = 1
number Settings = 2
number Command = 3
number IllegalCommand = 4
number Route = 5
number WorkMemory = 6
number LogRoom = 7
number UncoveredSlot = 8
number LinkTable = 9
number NoSeed = 10
number NoSlotsLink = 11
number SlotTable = 12
number NoLink = 13
number (Network f) = 14
number Unreadable = 15
number (Server k) = 16
number Extension = 16
number Shape = 17
number Keys = 17
number Sum = 18
number NoneForAll = 19
number NoneForOne = 19
number NoneForMin = 19
number Output = 20

abbrev pub fault_kind : NetworkFault → ErrorKind
fault_kind Dropped = kinds.Io
fault_kind Denied = kinds.Io
fault_kind Other = kinds.Io
fault_kind TooLong = kinds.Client

abbrev pub kind : Refusal → ErrorKind
kind Seeds = kinds.Client
kind Settings = kinds.Client
kind Command = kinds.Client
kind IllegalCommand = kinds.Client
kind Route = kinds.Client
kind WorkMemory = kinds.Client
kind LogRoom = kinds.Client
kind UncoveredSlot = kinds.Client
kind LinkTable = kinds.Client
kind NoSeed = kinds.Io
kind NoSlotsLink = kinds.Client
kind SlotTable = kinds.Client
kind NoLink = kinds.ClusterConnectionNotFound
kind (Network f) = fault_kind f
kind Unreadable = kinds.Parse
kind (Server k) = kinds.Server k
kind Extension = kinds.Extension
kind Shape = kinds.UnexpectedReturnType
kind Keys = kinds.Client
kind Sum = kinds.Client
kind NoneForAll = kinds.ClusterConnectionNotFound
kind NoneForOne = kinds.Io
kind NoneForMin = kinds.Client
kind Output = kinds.Client

abbrev pub fault_dropped : NetworkFault → Bool
fault_dropped Dropped = true
fault_dropped Denied = false
fault_dropped Other = false
fault_dropped TooLong = false

abbrev pub fault_denied : NetworkFault → Bool
fault_denied Dropped = false
fault_denied Denied = true
fault_denied Other = false
fault_denied TooLong = false

-- of the refusals of kind Io: the link is gone, or there was no act at all
abbrev pub dropped : Refusal → Bool
dropped Seeds = false
dropped Settings = false
dropped Command = false
dropped IllegalCommand = false
dropped Route = false
dropped WorkMemory = false
dropped LogRoom = false
dropped UncoveredSlot = false
dropped LinkTable = false
dropped NoSeed = true
dropped NoSlotsLink = false
dropped SlotTable = false
dropped NoLink = false
dropped (Network f) = fault_dropped f
dropped Unreadable = false
dropped (Server k) = false
dropped Extension = false
dropped Shape = false
dropped Keys = false
dropped Sum = false
dropped NoneForAll = false
dropped NoneForOne = true
dropped NoneForMin = false
dropped Output = false

abbrev pub denied : Refusal → Bool
denied Seeds = false
denied Settings = false
denied Command = false
denied IllegalCommand = false
denied Route = false
denied WorkMemory = false
denied LogRoom = false
denied UncoveredSlot = false
denied LinkTable = false
denied NoSeed = false
denied NoSlotsLink = false
denied SlotTable = false
denied NoLink = false
denied (Network f) = fault_denied f
denied Unreadable = false
denied (Server k) = false
denied Extension = false
denied Shape = false
denied Keys = false
denied Sum = false
denied NoneForAll = false
denied NoneForOne = false
denied NoneForMin = false
denied Output = false
