-- What an address says.
use Rattle.std.specs.Prelude.{ℕ, List}
use Rattle.node.specs.ByteKeys.{bytes_of}
use Rattle.node.specs.Named.{Named}
use Rattle.node.specs.declared.address.NodeAddress.{NodeAddress}

abbrev pub host_of : NodeAddress → List ℕ
host_of a = bytes_of a.host

abbrev pub name_of : NodeAddress → Named
name_of a = record { host = host_of a; port = a.port }
