-- What is judged by two lists of conditions, joined.
use Rattle.std.proofs.Common.{◌≡◌, List, ◌++◌, Option, Some, None, Ok, Err, refl}
use Rattle.acvp_token.specs.Conditions.{Condition, first_broken, unless, judged}
use Rattle.acvp_token.proofs.ConditionLemmas.{first_broken-append}

-- a refusal is by the fault that there is
pub refused-is : {F X : Type 0} (o : Option F) (x : X) (fault : F) → unless o x ≡ Err fault → o ≡ Some fault
refused-is None x fault h = cc
refused-is (Some found) x fault h = cc

pub holds-is : {F X : Type 0} (o : Option F) (x : X) → unless o x ≡ Ok x → o ≡ None
holds-is None x h = refl
holds-is (Some found) x h = cc

-- what the first list refuses, both do
pub refused-front : {F X Y : Type 0} (xs ys : List (Condition F)) (x : X) (y : Y) (fault : F) →
    judged xs x ≡ Err fault → judged (xs ++ ys) y ≡ Err fault
refused-front xs ys x y fault h = rw (first_broken-append xs ys, refused-is _ x fault h) refl

-- what the second list refuses, after the first has let through, both do
pub refused-behind : {F X Y : Type 0} (xs ys : List (Condition F)) (x : X) (y : Y) (fault : F) →
    first_broken xs ≡ None → judged ys x ≡ Err fault → judged (xs ++ ys) y ≡ Err fault
refused-behind xs ys x y fault h k =
    rw (first_broken-append xs ys, h, refused-is _ x fault k) refl

-- what both lists let through, they let through together
pub let-through : {F X Y : Type 0} (xs ys : List (Condition F)) (x : X) (y : Y) →
    first_broken xs ≡ None → judged ys x ≡ Ok x → judged (xs ++ ys) y ≡ Ok y
let-through xs ys x y h k = rw (first_broken-append xs ys, h, holds-is _ x k) refl
