pub mod FirstLists
