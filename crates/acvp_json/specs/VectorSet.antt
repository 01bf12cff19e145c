-- The object of a vector set: its groups of tests, as a client runs them.
use Rattle.std.specs.Prelude.{ℕ, List, codes, Bool}
use Rattle.serde_json.specs.Data.{Data, boolean, string, object, no_members, member}
use Rattle.acvp_caps.specs.Algorithms.{name_of}
use Rattle.acvp_gen.specs.declared.group.GroupForm.{GroupForm}
use Rattle.acvp_gen.specs.declared.group.GroupForm.TheVariants.{Digest, MonteCarlo, Mac}
use Rattle.acvp_gen.specs.declared.group.GroupKind.{GroupKind}
use Rattle.acvp_gen.specs.declared.group.GroupKind.TheVariants as kind
use Rattle.acvp_gen.specs.declared.group.Sizes.{Sizes}
use Rattle.acvp_gen.specs.Prompt.{TestValue, GroupValue, PromptsValue, kind_of}
use Rattle.acvp_json.specs.Values.{count, hex_text, array_of}

-- what the tests of a group ask for: a functional test, or a Monte Carlo test
abbrev pub type_word : GroupKind → List ℕ
type_word kind.Functional = codes "AFT"
type_word kind.MonteCarlo = codes "MCT"

-- a test of a hash function: the bits of the message, the message and the test's number
abbrev pub hash_test_data : TestValue → Data
hash_test_data test =
    object (member (codes "len") (count test.bits)
    (member (codes "msg") (hex_text test.message)
    (member (codes "tcId") (count test.number) no_members)))

-- a test of HMAC: the key, the message and the test's number
abbrev pub mac_test_data : TestValue → Data
mac_test_data test =
    object (member (codes "key") (hex_text test.key)
    (member (codes "msg") (hex_text test.message)
    (member (codes "tcId") (count test.number) no_members)))

-- a group of a hash function: what its tests ask for, its tests and its number
abbrev pub hash_group_data : GroupValue → Data
hash_group_data group =
    object (member (codes "testType") (string (type_word (kind_of group.form)))
    (member (codes "tests") (array_of hash_test_data group.tests)
    (member (codes "tgId") (count group.number) no_members)))

-- a group of HMAC: the same, after the bits of keys, MACs and messages
abbrev pub mac_group_data : Sizes → GroupValue → Data
mac_group_data sizes group =
    object (member (codes "keyLen") (count sizes.key_bits)
    (member (codes "macLen") (count sizes.mac_bits)
    (member (codes "msgLen") (count sizes.message_bits)
    (member (codes "testType") (string (type_word (kind_of group.form)))
    (member (codes "tests") (array_of mac_test_data group.tests)
    (member (codes "tgId") (count group.number) no_members))))))

-- a group, by its form: one of HMAC has sizes
abbrev pub group_under : GroupForm → GroupValue → Data
group_under Digest group = hash_group_data group
group_under MonteCarlo group = hash_group_data group
group_under (Mac sizes) group = mac_group_data sizes group

abbrev pub group_data : GroupValue → Data
group_data group = group_under group.form group

-- a vector set: its algorithm, whether it is a sample, its revision, its groups and its number
abbrev pub vector_set_data : Bool → PromptsValue → Data
vector_set_data sample prompts =
    object (member (codes "algorithm") (string (name_of prompts.algorithm))
    (member (codes "isSample") (boolean sample)
    (member (codes "revision") (string (codes "1.0"))
    (member (codes "testGroups") (array_of group_data prompts.groups)
    (member (codes "vsId") (count prompts.vs) no_members)))))
