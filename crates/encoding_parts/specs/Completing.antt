-- What completes a constructed string of which so much has been read. Some of its encodings are open,
-- each inside the next; what may follow goes by their forms and ends, by how many of them may nest, by
-- how many octets have been taken, and by the string so far.
use Rattle.std.specs.Prelude.{◌≡◌, ◌⊎◌, ℕ, ◌+◌, ◌<◌, ◌≤◌, true, false, List, [], ◌∷◌, ◌++◌, length}
use Rattle.octets.specs.declared.tag.Tag.{Tag}
use Rattle.octets.specs.Identifier.{IsIdentifier}
use Rattle.octets.specs.Length.{IsLength}
use Rattle.octets.specs.Rule.{ber}
use Rattle.types.specs.Form.{IsPrimitive}
use Rattle.encoding_parts.specs.declared.frame.Frame.{Frame}

-- the contents octets are as many as the length says
pub record IsDefiniteEnd (frame : Frame) (taken : ℕ) (mark : List ℕ) : Type 0 where
  pub definite : frame.definite ≡ true
  pub none : mark ≡ []
  pub there : taken ≡ frame.end

-- X.690 8.1.5: end-of-contents octets
pub record IsMarkedEnd (frame : Frame) (taken : ℕ) (mark : List ℕ) : Type 0 where
  pub indefinite : frame.definite ≡ false
  pub zeros : mark ≡ 0 ∷ 0 ∷ []
  pub fits : taken ≤ frame.end

-- these octets end the open encoding after so many octets
abbrev pub IsEndOf : Frame → ℕ → List ℕ → Type 0
IsEndOf frame taken mark = IsDefiniteEnd frame taken mark ⊎ IsMarkedEnd frame taken mark

-- a length within what holds the encoding
pub record OpensDefinite (end taken : ℕ) (opened : Frame) (size : List ℕ) : Type 0 where
  pub contents : ℕ
  pub sized : IsLength contents size
  pub definite : opened.definite ≡ true
  pub ends : opened.end ≡ taken + length size + contents
  pub fits : opened.end ≤ end

-- 8.1.3.6: the octet 80; after the contents octets there is room for end-of-contents octets
pub record OpensIndefinite (end taken : ℕ) (opened : Frame) (size : List ℕ) : Type 0 where
  pub mark : size ≡ 128 ∷ []
  pub indefinite : opened.definite ≡ false
  pub ends : opened.end + 2 ≡ end
  pub fits : taken + 1 ≤ opened.end

-- these length octets open an encoding inside one that ends there
abbrev pub Opens : ℕ → ℕ → Frame → List ℕ → Type 0
Opens end taken opened size = OpensDefinite end taken opened size ⊎ OpensIndefinite end taken opened size

-- the identifier octets and length octets of a constructed encoding
pub record IsOpening (tag : Tag) (end taken : ℕ) (opened : Frame) (octets : List ℕ) : Type 0 where
  pub identifier : List ℕ
  pub size : List ℕ
  pub tagged : IsIdentifier tag true identifier
  pub joined : octets ≡ identifier ++ size
  pub form : Opens end (taken + length identifier) opened size

-- a primitive segment and the piece that it holds
pub record IsSegment {A : Type 0} (inner : Tag) (Holds : List A → List ℕ → Type 0) (end taken : ℕ) (piece : List A) (octets : List ℕ) : Type 0 where
  pub contents : List ℕ
  pub holds : Holds piece contents
  pub primitive : IsPrimitive ber inner contents octets
  pub fits : taken + length octets ≤ end

-- the octets complete the string and leave a rest, part by part
pub data Completes {A : Type 0} (inner : Tag) (Holds : List A → List ℕ → Type 0) (Whole : List A → Type 0) (levels : ℕ) : List Frame → ℕ → List A → List ℕ → List A → List ℕ → Type 0 where
  complete : {taken : ℕ} {string total : List A} {octets rest : List ℕ} → total ≡ string → octets ≡ rest → Completes inner Holds Whole levels [] taken string octets total rest
  ends : {frame : Frame} {frames : List Frame} {taken : ℕ} {string total : List A} {octets rest : List ℕ} (mark others : List ℕ) (after : ℕ)
      → IsEndOf frame taken mark → octets ≡ mark ++ others → after ≡ taken + length mark
      → Completes inner Holds Whole levels frames after string others total rest → Completes inner Holds Whole levels (frame ∷ frames) taken string octets total rest
  segment : {frame : Frame} {frames : List Frame} {taken : ℕ} {string total : List A} {octets rest : List ℕ} (piece joined : List A) (part others : List ℕ) (after : ℕ)
      → Whole string → IsSegment inner Holds frame.end taken piece part → octets ≡ part ++ others → after ≡ taken + length part → joined ≡ string ++ piece
      → Completes inner Holds Whole levels (frame ∷ frames) after joined others total rest → Completes inner Holds Whole levels (frame ∷ frames) taken string octets total rest
  opens : {frame : Frame} {frames : List Frame} {taken : ℕ} {string total : List A} {octets rest : List ℕ} (opened : Frame) (part others : List ℕ) (after : ℕ)
      → Whole string → length (frame ∷ frames) < levels → IsOpening inner frame.end taken opened part → octets ≡ part ++ others → after ≡ taken + length part
      → Completes inner Holds Whole levels (opened ∷ frame ∷ frames) after string others total rest → Completes inner Holds Whole levels (frame ∷ frames) taken string octets total rest
