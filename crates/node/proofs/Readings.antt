-- `readable` is the rule.
use Rattle.std.proofs.Common.{◌≡◌, ℕ, suc, ◌+◌, ◌-◌, ◌*◌, ◌^◌, ◌<◌, ◌≤◌, Bool, true, false, cond, ◌&&◌, eqb, leb, List, [], ◌∷◌, ◌++◌, length, take, drop, is_some, Some, None, decimal, Option, sym, refl, ap, ◌∙◌, subst, arith, take-append-drop}
use Rattle.std.proofs.lemmas.Fmt.{digits_decimal, digits_value-decimal, decimal-digits_value, decimal_nonempty, first_decimal}
use Rattle.std.proofs.lemmas.List.{length-take-le, take_at, drop_at}
use Rattle.std.proofs.lemmas.Bool.{false≢true, and_parts, and_from, leb-true, le-leb, eqb-true, eqb-false}
use Rattle.std.proofs.lemmas.Bool.Decides.{nat_tests}
use Rattle.std.specs.Option.{option_map}
use Rattle.std.specs.Char.{is_ascii_digit}
use Rattle.std.specs.List.{AllByRecursion, prefix_len}
use Rattle.std.specs.Str.{all_ascii_digits}
use Rattle.node.specs.Named.{Named}
use Rattle.node.specs.Port.{number, port_on, port_of}
use Rattle.node.specs.Readable.{HostByte, Readable, Answer, Readings}
use Rattle.node.specs.Text.{plain, host_len, port_behind, reading, readable}
use Rattle.node.proofs.Ports.{number_grows, own, port_so}

module _ {A : Type 0} where
  if_so : (b : Bool) (o : Option A) (x : A) → cond b o None ≡ Some x → (b ≡ true) × (o ≡ Some x)
  if_so true o x e = (refl, e)
  if_so false o x e = absurd (false≢true (ap is_some e))

  if_not : (b : Bool) (o : Option A) (x : A) → cond b None o ≡ Some x → (b ≡ false) × (o ≡ Some x)
  if_not true o x e = absurd (false≢true (ap is_some e))
  if_not false o x e = (refl, e)

-- digits read as the port p
record Port (ds : List ℕ) (p : ℕ) : Type 0 where
  written : ds ≡ decimal p
  low : 1 ≤ p
  high : p ≤ 65535

port_right : (ds : List ℕ) (p : ℕ) → port_of ds ≡ Some p → Port ds p
port_right [] p e = absurd (false≢true (ap is_some e))
port_right (c ∷ cs) p e =
    let first = if_not (eqb c 0x30) (port_on 0 (c ∷ cs)) p e in
    let test = if_so (all_ascii_digits (c ∷ cs) && leb (number 0 (c ∷ cs)) 65535) (Some (number 0 (c ∷ cs))) p first.1 in
    let both = and_parts (all_ascii_digits (c ∷ cs)) (leb (number 0 (c ∷ cs)) 65535) test.0 in
    let is : number 0 (c ∷ cs) ≡ p = cc test.1 in
    let high = leb-true (number 0 (c ∷ cs)) 65535 both.1 in
    let lead = eqb-false c 0x30 first.0 in
    let digit = leb-true 0x30 c (and_parts _ _ (and_parts (is_ascii_digit c) (all_ascii_digits cs) both.0).0).0 in
    let grows = number_grows (10 * 0 + (c - 0x30)) cs in
    record {
      written = sym (decimal-digits_value own (c ∷ cs) both.0 (omega arith) (λ z. absurd (lead z)) (omega arith)) ∙ ap decimal is;
      low = omega arith;
      high = omega arith;
    }

port_complete : (p : ℕ) → 1 ≤ p → p ≤ 65535 → port_of (decimal p) ≡ Some p
port_complete p low high =
    let fits : p < 2 ^ 64 = omega arith in
    port_so (decimal p) p (digits_decimal own p fits) (digits_value-decimal own p fits) (decimal_nonempty p fits) (first_decimal p low fits) high

plain_byte : (b : ℕ) → plain b ≡ true → HostByte b
plain_byte b h = grind (arith, nat_tests)

byte_plain : (b : ℕ) → HostByte b → plain b ≡ true
byte_plain b h = grind (arith, nat_tests)

module _ (x : ℕ) (xs : List ℕ) where
  host_one : (t : Bool) → length (take (cond t (1 + prefix_len plain xs) 0) (x ∷ xs)) ≡ cond t (suc (host_len xs)) 0
  host_one true = let one : 1 + prefix_len plain xs ≡ suc (prefix_len plain xs) = omega arith in ap (λ n. length (take n (x ∷ xs))) one
  host_one false = refl

  host_more : host_len (x ∷ xs) ≡ cond (plain x) (suc (host_len xs)) 0
  host_more = host_one (plain x)

  front_one : (t : Bool) → plain x ≡ t → AllByRecursion HostByte (take (host_len xs) xs) → AllByRecursion HostByte (take (cond t (suc (host_len xs)) 0) (x ∷ xs))
  front_one true e h = (plain_byte x e, h)
  front_one false e h = tt

  within_one : (t : Bool) → host_len xs ≤ length xs → cond t (suc (host_len xs)) 0 ≤ length (x ∷ xs)
  within_one true h = omega arith
  within_one false h = omega arith

front_plain : (bs : List ℕ) → AllByRecursion HostByte (take (host_len bs) bs)
front_plain [] = tt
front_plain (x ∷ xs) =
    subst (λ n. AllByRecursion HostByte (take n (x ∷ xs))) (sym (host_more x xs)) (front_one x xs (plain x) refl (front_plain xs))

pub front_within : (bs : List ℕ) → host_len bs ≤ length bs
front_within [] = omega arith
front_within (x ∷ xs) = subst (λ n. n ≤ length (x ∷ xs)) (sym (host_more x xs)) (within_one x xs (plain x) (front_within xs))

front_is : (host rest : List ℕ) → AllByRecursion HostByte host → host_len (host ++ (0x3A ∷ rest)) ≡ length host
front_is [] rest h = refl
front_is (x ∷ xs) rest h =
    host_more x (xs ++ (0x3A ∷ rest)) ∙ ap (λ t. cond t (suc (host_len (xs ++ (0x3A ∷ rest)))) 0) (byte_plain x h.0) ∙ ap suc (front_is xs rest h.1)

-- a colon with the digits of a port behind it
record Behind (bs : List ℕ) (p : ℕ) : Type 0 where
  digits : List ℕ
  split : bs ≡ 0x3A ∷ digits
  port : Port digits p

behind : (bs : List ℕ) (p : ℕ) → port_behind bs ≡ Some p → Behind bs p
behind [] p e = absurd (false≢true (ap is_some e))
behind (b ∷ bs) p e =
    let h = if_so (eqb b 0x3A) (port_of bs) p e in
    record { digits = bs; split = ap (λ x. x ∷ bs) (eqb-true b 0x3A h.0); port = port_right bs p h.1 }

under : {A B : Type 0} (f : A → B) (o : Option A) (y : B) → option_map f o ≡ Some y → (x : A) × (o ≡ Some x) × (f x ≡ y)
under f None y e = absurd (false≢true (ap is_some e))
under f (Some x) y e = (x, refl, cc e)

module _ (host digits : List ℕ) (p : ℕ) where
  reading_so : 1 ≤ length host → length host ≤ 64 → port_of digits ≡ Some p → reading (length host) (host ++ (0x3A ∷ digits)) ≡ Some (record { host = host; port = p })
  reading_so some short port =
      let fits = and_from (leb 1 (length host)) (leb (length host) 64) (le-leb 1 (length host) some) (le-leb (length host) 64 short) in
      let front = take_at host (0x3A ∷ digits) (length host) refl in
      let back = drop_at host (0x3A ∷ digits) (length host) refl in
      rw (fits, front, back, port)

module _ (text : List ℕ) where
  pub right : (n : Named) → readable text ≡ Some n → Readable text n.host n.port
  right n e =
      let k = host_len text in
      let test = if_so (leb 1 k && leb k 64) _ n e in
      let both = and_parts (leb 1 k) (leb k 64) test.0 in
      let found = under (λ p. record { host = take k text; port = p }) (port_behind (drop k text)) n test.1 in
      let tail = behind (drop k text) found.0 found.1 in
      let long = length-take-le k text (front_within text) in
      subst (λ m. Readable text m.host m.port) found.2 (record {
        written = sym (take-append-drop k text) ∙ ap (λ l. take k text ++ l) (tail.split ∙ ap (λ l. 0x3A ∷ l) tail.port.written);
        some = omega (arith, leb-true 1 k both.0);
        short = omega (arith, leb-true k 64 both.1);
        plain = front_plain text;
        low = tail.port.low;
        high = tail.port.high;
      })

  pub complete : (n : Named) → Readable text n.host n.port → readable text ≡ Some n
  complete n h =
      let digits = decimal n.port in
      let all = n.host ++ (0x3A ∷ digits) in
      ap readable h.written ∙ ap (λ k. reading k all) (front_is n.host digits h.plain) ∙ reading_so n.host digits n.port h.some h.short (port_complete n.port h.low h.high)

  pub single : (m n : Named) → Readable text m.host m.port → Readable text n.host n.port → m ≡ n
  single m n h k = let e = complete m h in let d = complete n k in cc

  answered : (o : Option Named) → readable text ≡ o → Answer text o
  answered None e = λ host port h. absurd (false≢true (ap is_some (sym e ∙ complete (record { host = host; port = port }) h)))
  answered (Some n) e = right n e

  pub answer : Answer text (readable text)
  answer = answered (readable text) refl

pub readings : Readings readable
readings = record { right = right; complete = complete; single = single }
