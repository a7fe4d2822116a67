-- An address made of what a text reads as.
use Rattle.std.proofs.Common.{◌≡◌, ℕ, true, leb, List, [], ◌∷◌, length, take, is_some, IfSome, Some, None, Option, refl, ap, ◌∙◌}
use Rattle.std.proofs.lemmas.Bool.{false≢true, and_from, le-leb}
use Rattle.std.specs.Option.{option_map}
use Rattle.std.specs.List.{AllByRecursion}
use Rattle.node.specs.Address.{host_of, name_of}
use Rattle.node.specs.Host.{visible, all_visible, host_form}
use Rattle.node.specs.Named.{parted}
use Rattle.node.specs.Readable.{HostByte, Readable, Answer}
use Rattle.node.specs.Text.{readable}
use Rattle.node.specs.declared.address.NodeAddress.{NodeAddress}
use Rattle.node.specs.declared.split.Split.{Split}

visible_all : (bs : List ℕ) → AllByRecursion HostByte bs → all_visible bs ≡ true
visible_all [] h = refl
visible_all (b ∷ bs) h =
    and_from (visible b) (all_visible bs) (and_from (leb 0x21 b) (leb b 0x7E) (le-leb 0x21 b h.0.0) (le-leb b 0x7E h.0.1)) (visible_all bs h.1)

pub readable_host : (text host : List ℕ) (port : ℕ) → Readable text host port → host_form host ≡ true
readable_host text host port h =
    and_from _ _ (and_from (leb 1 (length host)) (leb (length host) 64) (le-leb _ _ h.some) (le-leb _ _ h.short)) (visible_all host h.plain)

named_so : (r : Option NodeAddress) (bytes : List ℕ) (p : ℕ) → host_form bytes ≡ true → is_some r ≡ host_form bytes → IfSome r (λ a. (host_of a ≡ bytes) × (a.port ≡ p)) → option_map name_of r ≡ Some (record { host = bytes; port = p })
named_so None bytes p form e h = absurd (false≢true (e ∙ form))
named_so (Some a) bytes p form e h = λ i. Some (record { host = h.0 i; port = h.1 i })

-- the address made of the two parts of a split
pub parsed : (text bytes : List ℕ) (s : Split) (r : Option NodeAddress) → bytes ≡ take s.host text → Answer text (Some (parted text s)) → Some (parted text s) ≡ readable text → is_some r ≡ host_form bytes → IfSome r (λ a. (host_of a ≡ bytes) × (a.port ≡ s.port)) → option_map name_of r ≡ readable text
parsed text bytes s r front so is form made =
    let host = ap host_form front ∙ readable_host text (take s.host text) s.port so in
    named_so r bytes s.port host form made ∙ (λ i. Some (record { host = front i; port = s.port })) ∙ is
