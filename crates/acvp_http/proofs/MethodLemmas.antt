-- The methods that the code keeps of a path, and those that the path lists.
use Rattle.std.proofs.Common.{◌≡◌, ◌++◌, ℕ, List, [], codes, Option, Some, None, if◌then◌else◌, refl, ap, ◌∙◌}
use Rattle.std.specs.Option.{option_or}
use Rattle.std.specs.Prelude.{find, is_some, option_map}
use Rattle.std.specs.List.{join_by}
use Rattle.std.specs.Str.{bytes_eq}
use Rattle.std.proofs.lemmas.List.Folds.{find-append}
use Rattle.acvp_desk.specs.declared.request.Ask.{Ask}
use Rattle.acvp_http.specs.declared.path.Methods.{Methods}
use Rattle.acvp_http.specs.Paths.{chosen}
use Rattle.acvp_http.specs.Private.Methods.{joined, listed, offered}

mapped_or : (a b : Option (List ℕ × Ask))
    → option_map (λ m. m.1) (option_or a b) ≡ option_or (option_map (λ m. m.1) a) (option_map (λ m. m.1) b)
mapped_or None b = refl
mapped_or (Some a) b = refl

-- out of two lists the method of the first is chosen, or else that of the second
pub chosen_or : (method : List ℕ) (xs ys : List (List ℕ × Ask))
    → chosen method (xs ++ ys) ≡ option_or (chosen method xs) (chosen method ys)
chosen_or method xs ys =
    ap (option_map (λ m. m.1)) (find-append (λ m. bytes_eq method m.0) xs ys)
    ∙ mapped_or (find (λ m. bytes_eq method m.0) xs) (find (λ m. bytes_eq method m.0) ys)

pub chosen_listed : (method : List ℕ) (m : Methods)
    → chosen method (listed m)
    ≡ option_or (option_or (option_or (chosen method (offered (codes "GET") m.get))
    (chosen method (offered (codes "POST") m.post)))
    (chosen method (offered (codes "PUT") m.put))) (chosen method (offered (codes "DELETE") m.delete))
chosen_listed method m =
    let get = offered (codes "GET") m.get in
    let post = offered (codes "POST") m.post in
    let put = offered (codes "PUT") m.put in
    let delete = offered (codes "DELETE") m.delete in
    chosen_or method (get ++ post ++ put) delete
    ∙ ap (λ c. option_or c (chosen method delete))
    (chosen_or method (get ++ post) put ∙ ap (λ c. option_or c (chosen method put)) (chosen_or method get post))

-- a name is written behind those that are there, where the method is
abbrev pub with_name : Option Ask → List ℕ → List ℕ → List ℕ
with_name asked name text = if is_some asked then joined text name else text

allowed_by : (a b c d : Option Ask)
    → with_name d (codes "DELETE")
    (with_name c (codes "PUT") (with_name b (codes "POST") (with_name a (codes "GET") [])))
    ≡ join_by (λ m. m.0) (codes ", ")
    (offered (codes "GET") a ++ offered (codes "POST") b ++ offered (codes "PUT") c ++ offered (codes "DELETE") d)
allowed_by None None None None = refl
allowed_by None None None (Some d) = refl
allowed_by None None (Some c) None = refl
allowed_by None None (Some c) (Some d) = refl
allowed_by None (Some b) None None = refl
allowed_by None (Some b) None (Some d) = refl
allowed_by None (Some b) (Some c) None = refl
allowed_by None (Some b) (Some c) (Some d) = refl
allowed_by (Some a) None None None = refl
allowed_by (Some a) None None (Some d) = refl
allowed_by (Some a) None (Some c) None = refl
allowed_by (Some a) None (Some c) (Some d) = refl
allowed_by (Some a) (Some b) None None = refl
allowed_by (Some a) (Some b) None (Some d) = refl
allowed_by (Some a) (Some b) (Some c) None = refl
allowed_by (Some a) (Some b) (Some c) (Some d) = refl

pub allowed_listed : (m : Methods)
    → with_name m.delete (codes "DELETE")
    (with_name m.put (codes "PUT") (with_name m.post (codes "POST") (with_name m.get (codes "GET") [])))
    ≡ join_by (λ m. m.0) (codes ", ") (listed m)
allowed_listed m = allowed_by m.get m.post m.put m.delete
