-- What devices told, over more than one call.
use Rattle.std.proofs.Common.{◌≡◌, ℕ, List, [], ◌++◌, Option, None, Some, refl, sym, ap, ◌∙◌, append_assoc}
use Rattle.std.proofs.lemmas.List.{append-nil}
use Rattle.std.specs.Io.KnownBytes.{Appends, Consumes, Keeps}

-- before any call
pub appends_none : (told : Option (List ℕ)) → Appends told told []
appends_none None = tt
appends_none (Some octets) = sym (append-nil octets)

pub consumes_none : (told : Option (List ℕ)) → Consumes told told []
consumes_none None = tt
consumes_none (Some octets) = refl

-- one call after others
pub appends_more : (a b c : Option (List ℕ)) (x y z : List ℕ) → Appends a b x → Appends b c y → z ≡ x ++ y → Appends a c z
appends_more None b c x y z p q both = tt
appends_more (Some s) None c x y z p q both = absurd p
appends_more (Some s) (Some t) None x y z p q both = absurd q
appends_more (Some s) (Some t) (Some u) x y z p q both = q ∙ ap (λ l. l ++ y) p ∙ append_assoc s x y ∙ ap (λ l. s ++ l) (sym both)

pub consumes_more : (a b c : Option (List ℕ)) (x y : List ℕ) → Consumes a b x → Consumes b c y → Consumes a c (x ++ y)
consumes_more None b c x y p q = tt
consumes_more (Some s) None c x y p q = absurd p
consumes_more (Some s) (Some t) None x y p q = absurd q
consumes_more (Some s) (Some t) (Some u) x y p q = p ∙ ap (λ l. x ++ l) q ∙ sym (append_assoc x y u)

-- one call that failed after others
pub appends_keeps : (a b c : Option (List ℕ)) (x : List ℕ) → Appends a b x → Keeps b c → Appends a c x
appends_keeps None b c x p q = tt
appends_keeps (Some s) None c x p q = absurd p
appends_keeps (Some s) (Some t) None x p q = absurd q
appends_keeps (Some s) (Some t) (Some u) x p q = q ∙ p

pub consumes_keeps : (a b c : Option (List ℕ)) (x : List ℕ) → Consumes a b x → Keeps b c → Consumes a c x
consumes_keeps None b c x p q = tt
consumes_keeps (Some s) None c x p q = absurd p
consumes_keeps (Some s) (Some t) None x p q = absurd q
consumes_keeps (Some s) (Some t) (Some u) x p q = p ∙ ap (λ l. x ++ l) (sym q)
