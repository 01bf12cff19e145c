-- What is written for a capability is read as it.
use Rattle.std.proofs.Common.{◌≡◌, ℕ, ◌≤◌, lit≤, List, [], ◌∷◌, length, get_or, max, Bool, true, false, ◌&&◌, Option}
use Rattle.std.proofs.Common.{Some, refl, sym, ◌∙◌, ap, subst, arith}
use Rattle.std.specs.Prelude.{map, nat_le, Ok, MatchBool}
use Rattle.std.specs.List.{list_all, filter_map}
use Rattle.std.proofs.lemmas.List.{length-map}
use Rattle.std.proofs.lemmas.List.Sums.{list_all-from_AllPass}
use Rattle.std.proofs.lemmas.Bool.Decides.{nat_tests}
use Rattle.serde_json.specs.Data.{Data, depth, items_depth}
use Rattle.serde_json.specs.View.{items_of}
use Rattle.acvp_caps.specs.declared.item.Item.{Item}
use Rattle.acvp_caps.specs.declared.item.Item.TheVariants.{Single, Range}
use Rattle.acvp_caps.specs.declared.algorithm.Algorithm.{Algorithm}
use Rattle.acvp_caps.specs.declared.algorithm.Algorithm.TheVariants.{Sha2_224, Sha2_256, Sha2_384, Sha2_512}
use Rattle.acvp_caps.specs.declared.algorithm.Algorithm.TheVariants.{Sha2_512_224, Sha2_512_256, HmacSha2_224}
use Rattle.acvp_caps.specs.declared.algorithm.Algorithm.TheVariants.{HmacSha2_256, HmacSha2_384, HmacSha2_512}
use Rattle.acvp_caps.specs.declared.algorithm.Algorithm.TheVariants.{HmacSha2_512_224, HmacSha2_512_256}
use Rattle.acvp_caps.specs.declared.capability.Domains.{Domains}
use Rattle.acvp_caps.specs.declared.capability.Domains.TheVariants.{Message, KeyAndMac}
use Rattle.acvp_caps.specs.declared.given.Given.{Given}
use Rattle.acvp_caps.specs.declared.given.Given.TheVariants.{MessageItems, KeyAndMacItems}
use Rattle.acvp_caps.specs.Algorithms.{named, name_of, is_hmac_of}
use Rattle.acvp_caps.specs.Items.{is_formed, is_byte_oriented}
use Rattle.acvp_caps.specs.Json.{elements}
use Rattle.acvp_caps.specs.Members.{members, all_within}
use Rattle.acvp_caps.specs.Capability.{AreLengths, AreDomainsOf, AreHashDomains, AreHmacDomains, digest_bits}
use Rattle.acvp_caps.specs.Registered.{item_of, is_item, items_at, is_domain, domain_of, registered_capability}
use Rattle.acvp_caps.specs.Private.Kept.{IsGivenBy, AreGivenBy, AreKept}
use Rattle.acvp_caps.specs.Private.Written.{item_data, domain_data, hash_data, hmac_data, IsCapabilityData}
use Rattle.acvp_caps.proofs.JsonLemmas.{item_list-items_of}

-- ---- a domain

pub item_of-item_data : (i : Item) → is_formed i ≡ true → item_of (item_data i) ≡ Some i
item_of-item_data (Single value) h = refl
item_of-item_data (Range min max increment) h = rw h refl

both : (a b : Bool) → (a && b) ≡ true → (a ≡ true) × (b ≡ true)
both true b h = (refl, h)
both false b h = cc

items-back : (items : List Item) → list_all is_formed items ≡ true → filter_map item_of (map item_data items) ≡ items
items-back [] h = refl
items-back (i ∷ is) h =
    let parts = both (is_formed i) (list_all is_formed is) h in
    rw (item_of-item_data i parts.0, items-back is parts.1) refl

items-are : (items : List Item) → list_all is_formed items ≡ true → list_all is_item (map item_data items) ≡ true
items-are [] h = refl
items-are (i ∷ is) h =
    let parts = both (is_formed i) (list_all is_formed is) h in
    rw (item_of-item_data i parts.0, items-are is parts.1) refl

-- the tests of a domain pass, it has these members and these items
pub record IsGood (low high : ℕ) (member : Option Data) (xs : List ℕ) (items : List Item) : Type 0 where
  pub form : is_domain (elements member) ≡ true
  pub whole : list_all is_byte_oriented (items_at member) ≡ true
  pub within : all_within low high (members (items_at member)) ≡ true
  pub same : domain_of member ≡ xs
  pub given : items_at member ≡ items

item-depth : (i : Item) → depth (item_data i) ≤ 1
item-depth (Single value) = lit≤ tt
item-depth (Range min max increment) = lit≤ tt

items-depth : (items : List Item) → items_depth (items_of (map item_data items)) ≤ 1
items-depth [] = lit≤ tt
items-depth (i ∷ is) = omega (arith, item-depth i, items-depth is)

pub domain-depth : (items : List Item) → depth (domain_data items) ≤ 2
domain-depth items = omega (arith, items-depth items)

at_least : (a b : ℕ) → a ≤ b → nat_le a b ≡ true
at_least a b h = grind (arith, nat_tests)

three : (a b c : Bool) → a ≡ true → b ≡ true → c ≡ true → (a && b && c) ≡ true
three a b c e f g = rw (e, f, g) refl

pub within-test : (low high : ℕ) (xs : List ℕ) → AreLengths low high xs → all_within low high xs ≡ true
within-test low high xs l = list_all-from_AllPass (λ n. nat_le low n && nat_le n high) xs (λ k d lt.
    let parts = l.within k d lt in
    two (nat_le low (get_or xs k d)) (nat_le (get_or xs k d) high) (at_least low (get_or xs k d) parts.0)
    (at_least (get_or xs k d) high parts.1))
  where
    two : (a b : Bool) → a ≡ true → b ≡ true → (a && b) ≡ true
    two a b e f = rw (e, f) refl

pub good-domain : (low high : ℕ) (items : List Item) (xs : List ℕ) → IsGivenBy xs items → AreLengths low high xs
    → IsGood low high (Some (domain_data items)) xs items
good-domain low high items xs w l = record {
  form = three (nat_le 1 (length (elements (Some (domain_data items)))))
      (nat_le (length (elements (Some (domain_data items)))) 32)
      (list_all is_item (elements (Some (domain_data items))))
      (at_least 1 _ (omega (arith, count, w.kept.some))) (at_least _ 32 (omega (arith, count, w.kept.most)))
      (ap (list_all is_item) given ∙ items-are items formed);
  whole = ap (list_all is_byte_oriented) read ∙ w.kept.whole_bytes;
  within = ap (λ (js : List Item). all_within low high (members js)) read ∙ ap (all_within low high) w.same
      ∙ within-test low high xs l;
  same = ap members read ∙ w.same;
  given = read;
}
  where
    formed : list_all is_formed items ≡ true
    formed = list_all-from_AllPass is_formed items w.kept.formed

    given : elements (Some (domain_data items)) ≡ map item_data items
    given = item_list-items_of (map item_data items)

    read : items_at (Some (domain_data items)) ≡ items
    read = ap (filter_map item_of) given ∙ items-back items formed

    count : length (elements (Some (domain_data items))) ≡ length items
    count = ap length given ∙ length-map items item_data

-- ---- a capability

pub named-name_of : (a : Algorithm) → named (name_of a) ≡ Some a
unfolding named
named-name_of Sha2_224 = refl
named-name_of Sha2_256 = refl
named-name_of Sha2_384 = refl
named-name_of Sha2_512 = refl
named-name_of Sha2_512_224 = refl
named-name_of Sha2_512_256 = refl
named-name_of HmacSha2_224 = refl
named-name_of HmacSha2_256 = refl
named-name_of HmacSha2_384 = refl
named-name_of HmacSha2_512 = refl
named-name_of HmacSha2_512_224 = refl
named-name_of HmacSha2_512_256 = refl

hash-reads : (a : Algorithm) (name : List ℕ) (given : Data) (xs : List ℕ) (items : List Item) → named name ≡ Some a
    → is_hmac_of a ≡ false → IsGood 0 65536 (Some given) xs items
    → registered_capability (hash_data name given) ≡ Ok (Some (record {
      algorithm = a;
      domains = Message xs;
      given = MessageItems items;
    }))
hash-reads a name given xs items e h good = rw (e, h, good.form, good.whole, good.within, good.same, good.given) refl

hmac-reads : (a : Algorithm) (name : List ℕ) (key mac : Data) (xs ys : List ℕ) (is js : List Item)
    → named name ≡ Some a
    → is_hmac_of a ≡ true → IsGood 8 524288 (Some key) xs is
    → IsGood 32 (digest_bits a) (Some mac) ys js
    → registered_capability (hmac_data name key mac) ≡ Ok (Some (record {
      algorithm = a;
      domains = KeyAndMac xs ys;
      given = KeyAndMacItems is js;
    }))
hmac-reads a name key mac xs ys is js e h good fine =
    rw (
      e,
      h,
      good.form,
      good.whole,
      good.within,
      good.same,
      good.given,
      fine.form,
      fine.whole,
      fine.within,
      fine.same,
      fine.given,
    )
    refl

-- ---- the value of a capability

hash-fits : (a : Algorithm) (message : List ℕ) (b : Bool) → is_hmac_of a ≡ b
    → MatchBool b (AreHmacDomains (digest_bits a) (Message message)) (AreHashDomains (Message message))
    → (is_hmac_of a ≡ false) × AreLengths 0 65536 message
hash-fits a message true e h = absurd h
hash-fits a message false e h = (e, h)

hmac-fits : (a : Algorithm) (key mac : List ℕ) (b : Bool) → is_hmac_of a ≡ b
    → MatchBool b (AreHmacDomains (digest_bits a) (KeyAndMac key mac)) (AreHashDomains (KeyAndMac key mac))
    → (is_hmac_of a ≡ true) × AreLengths 8 524288 key × AreLengths 32 (digest_bits a) mac
hmac-fits a key mac true e h = (e, h.0, h.1)
hmac-fits a key mac false e h = absurd h

hash-depth : (name : List ℕ) (items : List Item) → depth (hash_data name (domain_data items)) ≤ 127
hash-depth name items = omega (arith, domain-depth items)

hmac-depth : (name : List ℕ) (is js : List Item) → depth (hmac_data name (domain_data is) (domain_data js)) ≤ 127
hmac-depth name is js = omega (arith, domain-depth is, domain-depth js)

pub hash-written : (a : Algorithm) (domains : Domains) (given : Given) (name : List ℕ) (items : List Item) (d : Data)
    → given ≡ MessageItems items → name ≡ name_of a → AreKept a domains given → d ≡ hash_data name (domain_data items)
    → IsCapabilityData (record { algorithm = a; domains = domains; given = given }) d
hash-written a domains given name items d is named_so kept w =
    subst (λ (e : Data). IsCapabilityData (record { algorithm = a; domains = domains; given = given }) e) (sym w)
    (subst (λ (g : Given). IsCapabilityData (record { algorithm = a; domains = domains; given = g })
    (hash_data name (domain_data items))) (sym is)
    (of domains kept.fit (subst (λ (g : Given). AreGivenBy domains g) is kept.by)))
  where
    of : (domains : Domains) → AreDomainsOf a domains → AreGivenBy domains (MessageItems items)
        → IsCapabilityData (record { algorithm = a; domains = domains; given = MessageItems items })
        (hash_data name (domain_data items))
    of (Message message) fit by =
        let fits = hash-fits a message (is_hmac_of a) refl fit in
        record {
          reads = hash-reads a name (domain_data items) message items (ap named named_so ∙ named-name_of a) fits.0
              (good-domain 0 65536 items message by fits.1);
          shallow = hash-depth name items;
        }
    of (KeyAndMac key mac) fit by = absurd by

pub hmac-written : (a : Algorithm) (domains : Domains) (given : Given) (name : List ℕ) (is js : List Item) (d : Data)
    → given ≡ KeyAndMacItems is js → name ≡ name_of a → AreKept a domains given
    → d ≡ hmac_data name (domain_data is) (domain_data js)
    → IsCapabilityData (record { algorithm = a; domains = domains; given = given }) d
hmac-written a domains given name is js d e named_so kept w =
    subst (λ (x : Data). IsCapabilityData (record { algorithm = a; domains = domains; given = given }) x) (sym w)
    (subst (λ (g : Given). IsCapabilityData (record { algorithm = a; domains = domains; given = g })
    (hmac_data name (domain_data is) (domain_data js))) (sym e)
    (of domains kept.fit (subst (λ (g : Given). AreGivenBy domains g) e kept.by)))
  where
    of : (domains : Domains) → AreDomainsOf a domains → AreGivenBy domains (KeyAndMacItems is js)
        → IsCapabilityData (record { algorithm = a; domains = domains; given = KeyAndMacItems is js })
        (hmac_data name (domain_data is) (domain_data js))
    of (Message message) fit by = absurd by
    of (KeyAndMac key mac) fit by =
        let fits = hmac-fits a key mac (is_hmac_of a) refl fit in
        let is_name : named name ≡ Some a = ap named named_so ∙ named-name_of a in
        record {
          reads = hmac-reads a name (domain_data is) (domain_data js) key mac is js is_name
              fits.0 (good-domain 8 524288 is key by.0 fits.1) (good-domain 32 (digest_bits a) js mac by.1 fits.2);
          shallow = hmac-depth name is js;
        }
