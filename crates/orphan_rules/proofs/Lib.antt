pub mod OrphanLaws
